-- The row of an `each` is found by its name.
use Rattle.std.proofs.Common.{◌≡◌, true, false, [], ◌∷◌, Option, refl, sym, ◌∙◌, ap}
use Rattle.std.proofs.lemmas.Slice.Eq.{bytes_eq-Decides}
use Rattle.std.specs.Prelude.{Some}
use Rattle.std.specs.Str.{bytes_eq}
use Rattle.ras_syntax.specs.Grammar.{Text}
use Rattle.ras_names.specs.Checks.{is_among}
use Rattle.ras_scope.specs.declared.scope.EachRow.{EachRow}
use Rattle.ras_scope.specs.Scopes.{each_names}
use Rattle.ras_scope.proofs.SameTexts.{text_eq, same}

pub each_found : (each : Option EachRow) (e : EachRow) (name : Text) → each ≡ Some e → text_eq name e.name ≡ true → true ≡ is_among (each_names each) name
each_found each e name is h =
    let q : bytes_eq name e.name ≡ true = sym (same name e.name) ∙ h in rw (is, q) refl

pub each_missing : (each : Option EachRow) (e : EachRow) (name : Text) → each ≡ Some e → text_eq name e.name ≡ false → false ≡ is_among (each_names each) name
each_missing each e name is h =
    let q : bytes_eq name e.name ≡ false = sym (same name e.name) ∙ h in rw (is, q) refl

pub each_named : (each : Option EachRow) (e : EachRow) (name : Text) → each ≡ Some e → text_eq name e.name ≡ true → each_names each ≡ name ∷ []
each_named each e name is h =
    let q : name ≡ e.name = (bytes_eq-Decides name e.name).0 (sym (same name e.name) ∙ h) in rw is (ap (λ (t : Text). t ∷ []) (sym q))
