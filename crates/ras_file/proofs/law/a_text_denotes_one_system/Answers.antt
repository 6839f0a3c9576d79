use Rattle.std.proofs.Common.{◌≡◌, List, subst}
use Rattle.ras_lexer.specs.declared.token.Token.{Token}
use Rattle.ras_names.specs.Texts.{TokensDenote}
use Rattle.ras_file.proofs.law.a_text_denotes_one_system.Goals as goal

pub returns : goal.returns
returns c = λ bytes system other names more h k.
    let tokens : k.tokens ≡ h.tokens = c.tokens_are_one.ensures bytes k.tokens h.tokens k.read h.read in
    c.tokens_denote_one_system.ensures h.tokens system other names more h.denote (subst (λ (ts : List Token). TokensDenote ts other more) tokens k.denote)
