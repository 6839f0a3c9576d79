-- Numbers of declared sorts tell them apart as their names do.
use Rattle.std.proofs.Common.{◌≡◌, true, refl, ◌∙◌, nat_eq}
use Rattle.std.specs.Prelude.{Option, Some, None}
use Rattle.ras_syntax.specs.Grammar.{Text}
use Rattle.ras_logic.specs.declared.ids.SortId.{SortId}
use Rattle.ras_names.specs.Placed as placed
use Rattle.ras_names.specs.Checks.{texts}
use Rattle.ras_names.specs.TermChecks.{Scope, agree}
use Rattle.ras_numbering.specs.TermValues.{sort_or}
use Rattle.ras_scope.specs.Sorting.{IsSortOf}
use Rattle.ras_scope.proofs.Places.{same_number}

pub agree_numbers : (file : placed.File) (o p : Option Text) (a b : SortId) → IsSortOf file o (Some a) → IsSortOf file p (Some b) → agree o p ≡ nat_eq a.n b.n
agree_numbers file None p a b h k = absurd h
agree_numbers file (Some s) None a b h k = absurd k
agree_numbers file (Some s) (Some t) a b h k = same_number (texts file.sorts) s t h.0 k.0 ∙ (λ i. nat_eq (h.1 i).n (k.1 i).n)

-- a sort agrees with none
pub agree_none : (file : placed.File) (o p : Option Text) (a : SortId) → IsSortOf file o (Some a) → p ≡ None → agree o p ≡ true
agree_none file None p a h e = absurd h
agree_none file (Some s) p a h e = rw e refl

pub sort_or_is : (seen : Scope) (o : Option Text) (a wanted : SortId) → IsSortOf seen.file o (Some a) → sort_or seen wanted o ≡ a
sort_or_is seen None a wanted h = absurd h
sort_or_is seen (Some s) a wanted h = h.1
