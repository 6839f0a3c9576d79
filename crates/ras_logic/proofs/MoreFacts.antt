-- More facts, over the same terms or more, put no fewer terms together.
use Rattle.std.proofs.Common.{true, false, List}
use Rattle.ras_logic.specs.declared.term.Term.{Term}
use Rattle.ras_logic.specs.declared.literal.Literal.{Literal}
use Rattle.ras_logic.specs.declared.literal.Literal.TheVariants.{Equal}
use Rattle.ras_logic.specs.Schemas.{SchemaParts}
use Rattle.ras_logic.specs.Clashes.{IsTerm, Together, reflexive, symmetric, transitive, stated, same_images, image_of_undef, only_undef, Clash, stated_apart, two_constants, constant_undef}

module _ (schema : SchemaParts) (less more : List Literal) (terms : (t : Term) → IsTerm schema less t → IsTerm schema more t)
    (P Q : Literal → Type 0) (facts : (l : Literal) → P l → Q l) where
  pub together-more : {s t : Term} → Together schema less P s t → Together schema more Q s t
  together-more (reflexive t known) = reflexive t (terms t known)
  together-more (symmetric s t r) = symmetric s t (together-more r)
  together-more (transitive r s t p q) = transitive r s t (together-more p) (together-more q)
  together-more (stated s t fact) = stated s t (facts (Equal s t true) fact)
  together-more (same_images s t f r one other) =
      same_images s t f (together-more r) (terms _ one) (terms _ other)
  together-more (image_of_undef t f d known r one) = image_of_undef t f d known (together-more r) (terms _ one)
  together-more (only_undef t f d known total r) = only_undef t f d known total (together-more r)

  -- what clashes by some facts clashes by more
  pub clash-more : Clash schema less P → Clash schema more Q
  clash-more (stated_apart s t fact r) = stated_apart s t (facts (Equal s t false) fact) (together-more r)
  clash-more (two_constants c e differ r) = two_constants c e differ (together-more r)
  clash-more (constant_undef c s r) = constant_undef c s (together-more r)
