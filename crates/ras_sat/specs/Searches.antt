-- Where a search is.
use Rattle.std.specs.Prelude.{◌≡◌, [], ◌∷◌, reverse, Contains, ⊤}
use Rattle.ras_logic.specs.declared.tree.Node.TheVariants.{Leaf}
use Rattle.ras_logic.specs.Clashes.{FactsClash}
use Rattle.ras_sat.specs.declared.task.Task.{Task}
use Rattle.ras_sat.specs.declared.open_split.OpenSplit.{OpenSplit}
use Rattle.ras_sat.specs.declared.search.Search.{Search}
use Rattle.ras_sat.specs.declared.step.Step.{Step}
use Rattle.ras_sat.specs.declared.step.Step.TheVariants as step
use Rattle.ras_sat.specs.Tasks.{schema_of}
use Rattle.ras_sat.specs.Verdicts.{IsCase}
use Rattle.ras_sat.specs.Answers.{IsEscape}
use Rattle.ras_sat.specs.Splits.{IsRefutation, AreRefuted, AreOpen, instances_of}

-- the facts at hand are those below the open splits
pub record IsPlace (t : Task) (s : Search) : Type 0 where
  pub at : IsCase t s.facts
  pub below : AreOpen t s.facts.literals (reverse s.open.items)

-- the facts at hand are those of a split that is by another instance than those above it
pub record IsAtSplit (t : Task) (s : Search) (split : OpenSplit) : Type 0 where
  pub at : IsCase t s.facts
  pub refuted : AreRefuted t s.facts.literals split
  pub other : ¬ Contains (instances_of (reverse s.open.items)) split.instance
  pub below : AreOpen t s.facts.literals (reverse s.open.items)

-- what is so where this is next
abbrev pub IsNext : Task → Search → Step → Type 0
IsNext t s step.Enter = ⊤
IsNext t s (step.Leave tree) = IsRefutation t s.facts.literals tree
IsNext t s (step.End m) = IsEscape t.shape.now t.premise.now t.formulas.now t.instances.now m.db m.values

-- nothing has been split
abbrev pub IsLone : Step → Type 0
IsLone step.Enter = ⊤
IsLone (step.Leave tree) = tree.nodes ≡ Leaf ∷ []
IsLone (step.End m) = ⊥

-- The search stands at a place, and what it does next is right. Where the premise clashes, nothing is split.
pub record Stands (t : Task) (s : Search) (next : Step) : Type 0 where
  pub place : IsPlace t s
  pub right : IsNext t s next
  pub lone : FactsClash (schema_of t) t.premise.now.literals → (s.open.items ≡ []) × IsLone next
