-- Terms, literals, conjunctions and guards are read as they are written.
use Rattle.std.proofs.Common.{ℕ, List, ◌∷◌, ◌++◌, Bool, true, false, Some, None, Option, map, codes, refl}
use Rattle.ras_lexer.specs.declared.fixed.Fixed.TheVariants as fixed
use Rattle.ras_lexer.specs.declared.token.Word.{Word}
use Rattle.ras_lexer.specs.declared.token.Word.TheVariants as declared
use Rattle.ras_syntax.specs.Grammar as grammar
use Rattle.ras_syntax.specs.Grammar.{Text, one, term_words, comparison_sign, literal_words, conjunction_words, guard_words, dotted_words}
use Rattle.ras_names.specs.FileParts.{disjuncts}
use Rattle.ras_names.specs.Canonical.{joined, term_text, comparison_text, literal_text, conjunction_text, target_text, assigned_text}
use Rattle.ras_canonical.proofs.Spelled.{Anything, NoName, Spells, name, reserved, sign, spaced, and_then, apart, anywhere, separated}

pub term : (t : grammar.Term) → Spells NoName (term_text t) (term_words t)
term (grammar.call f t) =
    apart (name f) (and_then (sign fixed.OpenParen 40 refl refl) (apart (term t) (anywhere (sign fixed.CloseParen 41 refl refl)) (λ rest. refl))) (λ rest. refl)
term (grammar.cell row column) = apart (name row) (and_then (sign fixed.Dot 46 refl refl) (name column)) (λ rest. refl)
term (grammar.plain n) = name n
term grammar.undef = reserved fixed.Undef refl

comparison : (equal : Bool) → Spells Anything (comparison_text equal) (one (comparison_sign equal))
comparison true = spaced fixed.Equal
comparison false = spaced fixed.NotEqual

comparison_apart : (equal : Bool) (more rest : List ℕ) → NoName ((comparison_text equal ++ more) ++ rest)
comparison_apart true more rest = refl
comparison_apart false more rest = refl

pub literal : (l : grammar.Literal) → Spells NoName (literal_text l) (literal_words l)
literal l = apart (term l.left) (and_then (comparison l.equal) (term l.right)) (comparison_apart l.equal (term_text l.right))

pub conjunction : (c : grammar.Conjunction) → Spells NoName (conjunction_text c) (conjunction_words c)
conjunction grammar.always = reserved fixed.True refl
conjunction (grammar.all l ls) = separated (codes " and ") (one fixed.And) (λ rest. refl) (spaced fixed.And) literal_text literal_words literal l ls

pub guard : (g : grammar.Guard) → Spells NoName (joined (codes " or ") (map conjunction_text (disjuncts g))) (guard_words g)
guard g = separated (codes " or ") (one fixed.Or) (λ rest. refl) (spaced fixed.Or) conjunction_text conjunction_words conjunction g.first g.others

-- ---- assignments

pub target : (n : Text) (column : Option Text) → Spells NoName (target_text n column) (declared.Name n ∷ dotted_words column)
target n None = name n
target n (Some column) = apart (name n) (and_then (sign fixed.Dot 46 refl refl) (name column)) (λ rest. refl)

pub assigned : (at : List ℕ) (ws : List Word) (t : grammar.Term) → Spells NoName at ws → Spells Anything (assigned_text at t) (ws ++ (declared.Fixed fixed.Assign ∷ (term_words t ++ one fixed.Semicolon)))
assigned at ws t s = apart s (and_then (spaced fixed.Assign) (apart (term t) (sign fixed.Semicolon 59 refl refl) (λ rest. refl))) (λ rest. refl)
