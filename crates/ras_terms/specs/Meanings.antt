-- A term with its sort, where it has one of its own.
use Rattle.std.specs.Prelude.{Option, Some, None}
use Rattle.ras_logic.specs.declared.ids.SortId.{SortId}
use Rattle.ras_logic.specs.declared.term.Term.{Term}
use Rattle.ras_logic.specs.Terms.{undef_term}
use Rattle.ras_terms.specs.declared.terms.Meaning.{Meaning}
use Rattle.ras_terms.specs.declared.terms.Meaning.TheVariants.{Undef, Sorted}

-- `undef` alone has no sort of its own
abbrev pub sort_alone : Meaning → Option SortId
sort_alone Undef = None
sort_alone (Sorted t s) = Some s

-- the term where its place wants this sort
abbrev pub term_at : SortId → Meaning → Term
term_at sort Undef = undef_term sort
term_at sort (Sorted t s) = t
