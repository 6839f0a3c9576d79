mod KeptNames
