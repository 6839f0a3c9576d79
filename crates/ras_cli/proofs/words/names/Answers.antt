use Rattle.std.proofs.Common.{◌≡◌, ℕ, suc, ◌+◌, ◌-◌, List, length, take, drop, sym, ◌∙◌, rules, arith}
use Rattle.std.proofs.lemmas.List.{take_all, length-drop}
use Rattle.std.specs.Prelude.{codes, string_bytes}
use Rattle.ras_cli.specs.Words.{texts, IsOption}
use Rattle.ras_cli.proofs.Naming.{text_at, parted, one_more, whole, refused}
use Rattle.ras_cli.proofs.words.names.Goals as goal

-- all words behind a place
back : {X : Type 0} (xs : List X) (at : ℕ) → take (length xs - (at + 1)) (drop (at + 1) xs) ≡ drop (suc at) xs
back xs at = let next : at + 1 ≡ suc at = omega arith in
    rw next (take_all (length xs - suc at) (drop (suc at) xs) (omega (arith, length-drop (suc at) xs)))

pub returns-then-eq-clause-some : goal.returns-then-eq-clause-some
returns-then-eq-clause-some c =
    let dashes : c.as_str-word.result.now ≡ codes "--" = search rules in
    parted c.args.words.now _ _ c.loop-at.at c.index-words-at.result c.loop-at-test.true c.index-words-at.is (sym c.as_str-word.ensures.value ∙ dashes) c.loop-at.invariant
    (search rules) (back c.args.words.now c.loop-at.at)

pub returns-then-is_option-clause-none : goal.returns-then-is_option-clause-none
returns-then-is_option-clause-none c =
    refused (texts c.args.words.now) c.loop-at.at (string_bytes c.index-words-at.result) (text_at c.args.words.now c.loop-at.at c.index-words-at.result c.loop-at-test.true c.index-words-at.is)
    (search rules) (λ e. search rules) c.loop-at.invariant

pub loop-at-preserved : goal.loop-at-preserved
loop-at-preserved c =
    one_more c.args.words.now c.loop-at.at c.index-words-at.result c.loop-at-test.true c.index-words-at.is (λ (h : IsOption (string_bytes c.index-words-at.result)). search rules) c.loop-at.invariant

pub returns-clause-some : goal.returns-clause-some
returns-clause-some c = whole c.args.words.now c.loop-at.at (omega (arith, c.loop-at-test.false)) c.loop-at.invariant
