mod LeftOut
