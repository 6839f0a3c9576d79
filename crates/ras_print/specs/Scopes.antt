-- What the program keeps of what may be named at a place.
use Rattle.ras_names.specs.Terms as terms
use Rattle.ras_print.specs.declared.scope.Scope.{Scope}

abbrev pub scope_of : Scope → terms.Scope
scope_of s = record { names = s.names.now; rows = s.rows.now; relations = s.relations.now; params = s.params.now }
