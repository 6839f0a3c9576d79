-- A name in 64 bytes, of which those behind its end are 0.
use Rattle.std.specs.Prelude.{◌≡◌, ℕ, ◌-◌, ◌<◌, ◌≤◌, List, ◌++◌, length, take, replicate}
use Rattle.std.proofs.Common.{ap, sym, ◌∙◌, arith}
use Rattle.std.proofs.lemmas.List.{length-take}
use Rattle.ras_lexer.specs.declared.text.Text.TheInside.{Inside}

abbrev pub name_of : Inside → List ℕ
name_of a = take a.length a.bytes

pub record IsPadded (a : Inside) : Type 0 where
  pub some : 0 < a.length
  pub most : a.length ≤ 64
  pub whole : length a.bytes ≡ 64
  pub rest : a.bytes ≡ take a.length a.bytes ++ replicate (64 - a.length) 0

abbrev pub padded : List ℕ → Inside
padded name = record { bytes = name ++ replicate (64 - length name) 0; length = length name }

pub padded_back : (a : Inside) → IsPadded a → padded (name_of a) ≡ a
padded_back a h =
    let len : length (take a.length a.bytes) ≡ a.length = omega (arith, length-take a.length a.bytes, h.most, h.whole) in
    let make : List ℕ → ℕ → Inside = λ b n. record { bytes = b; length = n } in
    ap (λ (n : ℕ). make (take a.length a.bytes ++ replicate (64 - n) 0) n) len ∙ ap (λ (b : List ℕ). make b a.length) (sym h.rest)
