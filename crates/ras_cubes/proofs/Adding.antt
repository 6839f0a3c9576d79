-- Literals that are due are added one by one.
use Rattle.std.proofs.Common.{◌≡◌, ◌≢◌, ℕ, ◌+◌, ◌<◌, ◌≤◌, true, false, List, [], ◌∷◌, ◌++◌, length, get_or, refl, sym, ◌∙◌, ap, subst, arith, ◌⊎◌, inl, inr, ⊎_elim}
use Rattle.std.specs.Prelude.{slice_get, Option, Some, None}
use Rattle.std.proofs.lemmas.Option.{slice_get_within}
use Rattle.ras_logic.specs.declared.ids.FunId.{FunId}
use Rattle.ras_logic.specs.declared.ids.SortId.{SortId}
use Rattle.ras_logic.specs.declared.function.FunDecl.{FunDecl}
use Rattle.ras_logic.specs.declared.term.Term.{Term}
use Rattle.ras_logic.specs.declared.literal.Literal.{Literal}
use Rattle.ras_logic.specs.declared.literal.Literal.TheVariants.{Equal}
use Rattle.ras_logic.specs.declared.problem.Problem.{Problem}
use Rattle.ras_logic.specs.Terms.{undef_term}
use Rattle.ras_closure.specs.declared.link.Link.{Link}
use Rattle.ras_closure.specs.declared.link.Link.TheVariants.{Base as BaseLink, Image}
use Rattle.ras_closure.specs.Numbered.{IsAt, IsTable, IsImageLink}
use Rattle.ras_closure.specs.Closures.{ClosureParts}
use Rattle.ras_closure.proofs.Cases.{some_same, none_some, true_false, below_or_same}
use Rattle.ras_closure.proofs.Sides.{literal-known}
use Rattle.ras_split.specs.Among.{IsAmong}
use Rattle.ras_logic.specs.Literals.{left_of, right_of, same_of}
use Rattle.ras_split.specs.Standing.{standing, IsOwn, own_base, own_image, HasNoOwn}
use Rattle.ras_cubes.specs.Dues.{IsTermDue, IsImageDue, IsFactDueOf, IsFactDue, IsDueTo, IsTrivial, AddsDue, IsDue, IsCubeOf, SidesAreTerms}
use Rattle.ras_split.proofs.Listed.{among-more, among-last, among-either, among-none}
use Rattle.ras_split.proofs.Owning.{own-unique}

pub adds-trivial : (D : Literal → Type 0) (xs : List Literal) → ((l : Literal) → D l → IsTrivial l) → AddsDue D xs xs
adds-trivial D xs trivial = record { kept = λ l h. h; only = λ l h. inl h; all = λ l due. inr (trivial l due) }

pub adds-nothing : (D : Literal → Type 0) (xs : List Literal) → ((l : Literal) → D l → ⊥) → AddsDue D xs xs
adds-nothing D xs none = adds-trivial D xs (λ l due. absurd (none l due))

pub adds-literal : (D : Literal → Type 0) (xs : List Literal) (m : Literal) → D m → ((l : Literal) → D l → l ≡ m) → AddsDue D xs (xs ++ m ∷ [])
adds-literal D xs m due one = record {
  kept = λ l h. among-more xs m l h;
  only = λ l h. ⊎_elim (λ (old : IsAmong xs l). inl old) (λ (e : l ≡ m). inr (subst D (sym e) due)) (among-either xs m l h);
  all = λ l h. inl (subst (IsAmong (xs ++ m ∷ [])) (sym (one l h)) (among-last xs m));
}

pub due-start : (D : ℕ → Literal → Type 0) (xs : List Literal) → AddsDue (IsDueTo D 0) xs xs
due-start D xs = adds-nothing (IsDueTo D 0) xs (λ l due. absurd (omega (arith, due.1)))

pub due-on : (D : ℕ → Literal → Type 0) (n : ℕ) (a b x : List Literal) → AddsDue (IsDueTo D n) a b → AddsDue (D n) b x → AddsDue (IsDueTo D (n + 1)) a x
due-on D n a b x first next = record {
  kept = λ l h. next.kept l (first.kept l h);
  only = λ l h.
      ⊎_elim
      (λ (mid : IsAmong b l). ⊎_elim (λ (old : IsAmong a l). inl old) (λ (due : IsDueTo D n l). inr (due.0, omega (arith, due.1), due.2)) (first.only l mid))
      (λ (due : D n l). inr (n, omega arith, due)) (next.only l h);
  all = λ l due.
      ⊎_elim
      (λ (below : due.0 < n). ⊎_elim (λ (mid : IsAmong b l). inl (next.kept l mid)) (λ (t : IsTrivial l). inr t) (first.all l (due.0, below, due.2)))
      (λ (here : due.0 ≡ n). next.all l (subst (λ (k : ℕ). D k l) here due.2)) (below_or_same due.0 n due.1);
}

module _ (c : ClosureParts) (table : IsTable c.table) (terms : List (Option Term)) (xs : List Literal) where
  pub term-none : (i : ℕ) → standing c terms i ≡ None → AddsDue (IsTermDue c terms i) xs xs
  term-none i none = adds-nothing (IsTermDue c terms i) xs (λ l due. none_some (sym none ∙ due.stands))

  pub term-no_own : (i : ℕ) → HasNoOwn c terms i → AddsDue (IsTermDue c terms i) xs xs
  term-no_own i none = adds-nothing (IsTermDue c terms i) xs (λ l due. none due.own due.is_own)

  term-literal : (i : ℕ) (own by : Term) → IsOwn c terms i own → standing c terms i ≡ Some by → (l : Literal) → IsTermDue c terms i l → l ≡ Equal own by true
  term-literal i own by is stands l due =
      due.is ∙ ap (λ (w : Term). Equal w due.by true) (own-unique c table terms i due.own own due.is_own is) ∙ ap (λ (w : Term). Equal own w true) (some_same (sym due.stands ∙ stands))

  pub term-equal : (i : ℕ) (own by : Term) → IsOwn c terms i own → standing c terms i ≡ Some by → own ≡ by → AddsDue (IsTermDue c terms i) xs xs
  term-equal i own by is stands same =
      adds-trivial (IsTermDue c terms i) xs (λ l due. (by, term-literal i own by is stands l due ∙ ap (λ (w : Term). Equal w by true) same))

  pub term-added : (i : ℕ) (own by : Term) → IsOwn c terms i own → standing c terms i ≡ Some by → AddsDue (IsTermDue c terms i) xs (xs ++ Equal own by true ∷ [])
  term-added i own by is stands =
      adds-literal (IsTermDue c terms i) xs (Equal own by true) (record { own = own; by = by; is_own = is; stands = stands; is = refl }) (term-literal i own by is stands)

  image_same : (of of2 : ℕ) (f g : FunId) → Some (Image of f) ≡ Some (Image of2 g) → (of ≡ of2) × (f ≡ g)
  image_same of of2 f g e = (cc, cc)

  pub image-base : (k : ℕ) → slice_get c.table.links k ≡ Some BaseLink → AddsDue (IsImageDue c terms k) xs xs
  image-base k link = adds-nothing (IsImageDue c terms k) xs (λ l due. two due.of due.f (sym link ∙ due.link))
    where
      two : (of : ℕ) (f : FunId) → Some BaseLink ≡ Some (Image of f) → ⊥
      two of f e = cc

  module _ (k of : ℕ) (f : FunId) (decl : FunDecl) (link : IsImageLink c.table.links k of f) (known : slice_get c.table.shape.schema.functions f.n ≡ Some decl) where
    decl-is : (l : Literal) (due : IsImageDue c terms k l) → due.decl ≡ decl
    decl-is l due =
        let same = image_same due.of of due.f f (sym due.link ∙ link) in
        some_same (sym due.known ∙ ap (λ (g : FunId). slice_get c.table.shape.schema.functions g.n) same.1 ∙ known)

    of-is : (l : Literal) (due : IsImageDue c terms k l) → due.of ≡ of
    of-is l due = (image_same due.of of due.f f (sym due.link ∙ link)).0

    pub image-nullable : decl.total ≡ false → AddsDue (IsImageDue c terms k) xs xs
    image-nullable not = adds-nothing (IsImageDue c terms k) xs (λ l due. true_false (sym due.total ∙ ap (λ (q : FunDecl). q.total) (decl-is l due) ∙ not))

    pub image-kept : (q : Term) → standing c terms of ≡ Some q → AddsDue (IsImageDue c terms k) xs xs
    image-kept q by = adds-nothing (IsImageDue c terms k) xs (λ l due. none_some (sym due.none ∙ ap (standing c terms) (of-is l due) ∙ by))

    pub image-none : standing c terms k ≡ None → AddsDue (IsImageDue c terms k) xs xs
    image-none none = adds-nothing (IsImageDue c terms k) xs (λ l due. none_some (sym none ∙ due.stands))

    pub image-added : (by : Term) → decl.total ≡ true → standing c terms of ≡ None → standing c terms k ≡ Some by
        → AddsDue (IsImageDue c terms k) xs (xs ++ Equal by (undef_term decl.target) false ∷ [])
    image-added by total none stands =
        adds-literal (IsImageDue c terms k) xs (Equal by (undef_term decl.target) false)
        (record { of = of; f = f; decl = decl; by = by; link = link; known = known; total = total; none = none; stands = stands; is = refl })
        (λ l due.
        due.is ∙ ap (λ (w : Term). Equal w (undef_term due.decl.target) false) (some_same (sym due.stands ∙ stands))
        ∙ ap (λ (q : FunDecl). Equal by (undef_term q.target) false) (decl-is l due))

  module _ (fact : Literal) where
    pub fact-same : same_of fact ≡ true → AddsDue (IsFactDueOf c terms fact) xs xs
    fact-same same = adds-nothing (IsFactDueOf c terms fact) xs (λ l due. true_false (sym same ∙ ap same_of due.sides))

    left-is : (i : ℕ) → IsAt c.table.terms i (left_of fact) → (l : Literal) (due : IsFactDueOf c terms fact l) → due.i ≡ i
    left-is i at l due = table.terms.different due.i i due.s due.left (at ∙ ap (λ (m : Literal). Some (left_of m)) due.sides)

    right-is : (j : ℕ) → IsAt c.table.terms j (right_of fact) → (l : Literal) (due : IsFactDueOf c terms fact l) → due.j ≡ j
    right-is j at l due = table.terms.different due.j j due.t due.right (at ∙ ap (λ (m : Literal). Some (right_of m)) due.sides)

    pub fact-no_left : (i : ℕ) → IsAt c.table.terms i (left_of fact) → standing c terms i ≡ None → AddsDue (IsFactDueOf c terms fact) xs xs
    fact-no_left i at none = adds-nothing (IsFactDueOf c terms fact) xs (λ l due. none_some (sym none ∙ ap (standing c terms) (sym (left-is i at l due)) ∙ due.left_by))

    pub fact-no_right : (j : ℕ) → IsAt c.table.terms j (right_of fact) → standing c terms j ≡ None → AddsDue (IsFactDueOf c terms fact) xs xs
    fact-no_right j at none = adds-nothing (IsFactDueOf c terms fact) xs (λ l due. none_some (sym none ∙ ap (standing c terms) (sym (right-is j at l due)) ∙ due.right_by))

    pub fact-added : (i j : ℕ) (q r : Term) → same_of fact ≡ false → IsAt c.table.terms i (left_of fact) → IsAt c.table.terms j (right_of fact) → standing c terms i ≡ Some q → standing c terms j ≡ Some r
        → AddsDue (IsFactDueOf c terms fact) xs (xs ++ Equal q r false ∷ [])
    fact-added i j q r differ at_i at_j by_i by_j =
        adds-literal (IsFactDueOf c terms fact) xs (Equal q r false)
        (record { s = left_of fact; t = right_of fact; i = i; j = j; q = q; r = r; sides = whole fact differ; left = at_i; right = at_j; left_by = by_i; right_by = by_j; is = refl })
        (λ l due.
        due.is ∙ ap (λ (w : Term). Equal w due.r false) (some_same (sym due.left_by ∙ ap (standing c terms) (left-is i at_i l due) ∙ by_i))
        ∙ ap (λ (w : Term). Equal q w false) (some_same (sym due.right_by ∙ ap (standing c terms) (right-is j at_j l due) ∙ by_j)))
      where
        whole : (m : Literal) → same_of m ≡ false → m ≡ Equal (left_of m) (right_of m) false
        whole (Equal left right same) e = ap (λ b. Equal left right b) e

-- the fact of a problem is the one that is at that place
pub fact-at : (c : ClosureParts) (terms : List (Option Term)) (n : ℕ) (fact : Literal) (xs ys : List Literal) → slice_get c.table.problem.literals n ≡ Some fact
    → AddsDue (IsFactDueOf c terms fact) xs ys → AddsDue (IsFactDue c terms n) xs ys
fact-at c terms n fact xs ys at adds = record {
  kept = adds.kept;
  only = λ l h. ⊎_elim (λ (old : IsAmong xs l). inl old) (λ (due : IsFactDueOf c terms fact l). inr (record { fact = fact; known = at; due = due })) (adds.only l h);
  all = λ l due. adds.all l (subst (λ (m : Literal). IsFactDueOf c terms m l) (some_same (sym due.known ∙ at)) due.due);
}

-- the three kinds of literals together
pub cube-is_of : (c : ClosureParts) → IsTable c.table → (terms : List (Option Term)) (a b x : List Literal) (p : Problem) → p.rows ≡ c.table.problem.rows → p.params ≡ [] → p.literals ≡ x
    → AddsDue (IsDueTo (IsTermDue c terms) (length c.table.terms)) [] a → AddsDue (IsDueTo (IsImageDue c terms) (length c.table.terms)) a b
    → AddsDue (IsDueTo (IsFactDue c terms) (length c.table.problem.literals)) b x → IsCubeOf c terms p
cube-is_of c table terms a b x p rows params are first second third = record {
  rows = rows;
  params = params;
  only = λ l h. only l (subst (λ (ls : List Literal). IsAmong ls l) are h);
  all = λ l due. ⊎_elim (λ (h : IsAmong x l). inl (subst (λ (ls : List Literal). IsAmong ls l) (sym are) h)) (λ (t : IsTrivial l). inr t) (all l due);
}
  where
    only : (l : Literal) → IsAmong x l → IsDue c terms l
    only l h =
        ⊎_elim
        (λ (in_b : IsAmong b l).
        ⊎_elim
        (λ (in_a : IsAmong a l).
        ⊎_elim (λ (none : IsAmong [] l). absurd (among-none l none)) (λ (due : IsDueTo (IsTermDue c terms) (length c.table.terms) l). inl (due.0, due.2)) (first.only l in_a))
        (λ (due : IsDueTo (IsImageDue c terms) (length c.table.terms) l). inr (inl (due.0, due.2))) (second.only l in_b))
        (λ (due : IsDueTo (IsFactDue c terms) (length c.table.problem.literals) l). inr (inr (due.0, due.2))) (third.only l h)

    own-within : (i : ℕ) (u : Term) → IsOwn c terms i u → i < length c.table.terms
    own-within i u (own_base b at free) = slice_get_within c.table.terms i u at
    own-within i u (own_image of f s q link at_of by) = rw (← table.links.as_many) (slice_get_within c.table.links i (Image of f) link)

    all : (l : Literal) → IsDue c terms l → IsAmong x l ⊎ IsTrivial l
    all l (inl h) =
        ⊎_elim (λ (in_a : IsAmong a l). inl (third.kept l (second.kept l in_a))) (λ (t : IsTrivial l). inr t) (first.all l (h.0, own-within h.0 h.1.own h.1.is_own, h.1))
    all l (inr (inl h)) =
        ⊎_elim (λ (in_b : IsAmong b l). inl (third.kept l in_b)) (λ (t : IsTrivial l). inr t)
        (second.all l (h.0, rw (← table.links.as_many) (slice_get_within c.table.links h.0 (Image h.1.of h.1.f) h.1.link), h.1))
    all l (inr (inr h)) = third.all l (h.0, slice_get_within c.table.problem.literals h.0 h.1.fact h.1.known, h.1)

-- the sides of the problem's literals are terms
pub sides-terms : (c : ClosureParts) → IsTable c.table → (n : ℕ) (l : Literal) → slice_get c.table.problem.literals n ≡ Some l → SidesAreTerms c l
sides-terms c table n (Equal left right same) at =
    let known = literal-known c.table.shape c.table.problem.rows c.table.problem.params c.table.problem.literals table.fits.literals n (Equal left right same) at in
    record { left = known.0; right = known.2 }
