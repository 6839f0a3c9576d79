use Rattle.std.proofs.Common.{◌≡◌, List, ◌∷◌, refl, ap, arith}
use Rattle.ras_lexer.specs.declared.token.Token.{Token}
use Rattle.ras_names.specs.Unplaced.{file_of}
use Rattle.ras_names_vectors.specs.Wrong.{cycle_of_two}
use Rattle.ras_names_vectors.specs.Processes.{nullable_text}
use Rattle.ras_names_vectors.proofs.tokens.tokens_of_texts.Goals as goal

first_place : (t u : Token) (ts us : List Token) → ◌≡◌ {A = List Token} (t ∷ ts) (u ∷ us) → t.at ≡ u.at
first_place t u ts us e = let same : t ≡ u = cc in ap (λ (x : Token). x.at) same

pub returns-clause-cycle : goal.returns-clause-cycle
returns-clause-cycle c = record { spelled = refl; places = refl }

pub returns-clause-nullable : goal.returns-clause-nullable
returns-clause-nullable c = record { spelled = refl; places = refl }

pub returns-clause-moved : goal.returns-clause-moved
returns-clause-moved c = λ h. let e : 7 ≡ 8 = first_place _ _ _ _ h.places in omega (arith, e)

pub returns-clause-fault : goal.returns-clause-fault
returns-clause-fault c = record { file = cycle_of_two; of = record { spelled = refl; places = refl }; first = refl }

pub returns-clause-denoted : goal.returns-clause-denoted
returns-clause-denoted c = record { file = file_of nullable_text; spelled = refl; denotes = c.texts_of_systems.ensures.nullable }
