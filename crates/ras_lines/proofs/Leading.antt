-- A line that says what stands behind it, and values made of what is read.
use Rattle.std.proofs.Common.{◌≡◌, ℕ, List, [], ◌∷◌, ◌++◌, refl, sym, ap, subst, ◌∙◌, append_assoc}
use Rattle.std.specs.Prelude.{Ok, Err}
use Rattle.ras_lines.specs.Fronts.{Front, follow, made}
use Rattle.ras_lines.proofs.Exact.{followed, moved}
use Rattle.ras_lines.proofs.SectionLaws.{IsExactText, Stops}

abbrev Line : Type 0
Line = List ℕ

-- where reading stopped, whatever would have been read
stopped : {X Y : Type 0} (o : Front Line X) (l left : List Line) → o ≡ Err l → ◌≡◌ {A = Front Line Y} (Err l) (Err left) → o ≡ Err left
stopped {X} {Y} o l left is e =
    is ∙ ap (λ (k : List Line). let r : Front Line X = Err k in r) (ap (λ (r : Front Line Y). elim r [ Ok p ↦ l | Err k ↦ k ]) e)

module _ {K X : Type 0} (kind : X → K) (head : K → Line) (V : K → Type 0) (h : List Line → Front Line K) (h_exact : IsExactText (λ k. head k ∷ []) V h)
    (text : X → List Line) (Valid : X → Type 0) (body : K → List Line → Front Line X) (body_exact : (k : K) → V k → IsExactText text (λ x. (kind x ≡ k) × Valid x) (body k))
    (some : (k : K) → V k → (x : X) × ((kind x ≡ k) × Valid x)) where
  abbrev pub led_text : X → List Line
  led_text x = head (kind x) ∷ text x

  abbrev pub LedValid : X → Type 0
  LedValid x = V (kind x) × Valid x

  abbrev pub led : List Line → Front Line X
  led lines = follow (h lines) body

  led_sound : (lines : List Line) (x : X) (rest : List Line) → led lines ≡ Ok (x, rest) → (lines ≡ led_text x ++ rest) × LedValid x
  led_sound lines x rest e =
      let s = followed (h lines) body x rest e in
      let a = h_exact.reads.sound lines s.0 s.1 s.2 in
      let b = (body_exact s.0 a.1).reads.sound s.1 x rest s.3 in
      let parts : lines ≡ head s.0 ∷ (text x ++ rest) = a.0 ∙ ap (λ (ls : List Line). head s.0 ∷ ls) b.0 in
      (parts ∙ ap (λ (k : K). head k ∷ (text x ++ rest)) (sym b.1.0), (subst V (sym b.1.0) a.1, b.1.1))

  led_again : (x : X) (rest : List Line) → LedValid x → led (led_text x ++ rest) ≡ Ok (x, rest)
  led_again x rest valid =
      ap (λ (o : Front Line K). follow o body) (h_exact.reads.again (kind x) (text x ++ rest) valid.0 tt) ∙ (body_exact (kind x) valid.0).reads.again x rest (refl, valid.1) tt

  led_case : (lines left : List Line) (o : Front Line K) → h lines ≡ o → follow o body ≡ Err left → Stops led_text LedValid led lines left
  led_case lines left (Err l) is e =
      let s = h_exact.stops lines left (stopped {X = K} {Y = X} (h lines) l left is e) in
      let x = some s.value s.valid in
      record {
        front = s.front;
        parts = s.parts;
        value = x.0;
        more = s.more ++ text x.0;
        valid = (subst V (sym x.1.0) s.valid, x.1.1);
        begins = ap (λ (k : K). head k ∷ text x.0) x.1.0 ∙ ap (λ (ls : List Line). ls ++ text x.0) s.begins ∙ append_assoc s.front s.more (text x.0);
        dead = λ line behind other same. ap (λ (o : Front Line K). follow o body) (s.dead line behind other same);
      }
  led_case lines left (Ok p) is e =
      let a = h_exact.reads.sound lines p.0 p.1 is in
      let s = (body_exact p.0 a.1).stops p.1 left e in
      record {
        front = head p.0 ∷ s.front;
        parts = a.0 ∙ ap (λ (ls : List Line). head p.0 ∷ ls) s.parts;
        value = s.value;
        more = s.more;
        valid = (subst V (sym s.valid.0) a.1, s.valid.1);
        begins = ap (λ (k : K). head k ∷ text s.value) s.valid.0 ∙ ap (λ (ls : List Line). head p.0 ∷ ls) s.begins;
        dead = λ line behind other same.
            ap (λ (o : Front Line K). follow o body) (h_exact.reads.again p.0 (s.front ++ line ∷ other) a.1 tt) ∙ s.dead line behind other same;
      }

  pub led_exact : IsExactText led_text LedValid led
  led_exact = record { reads = record { sound = led_sound; again = λ x rest valid any. led_again x rest valid }; stops = λ lines left e. led_case lines left (h lines) refl e }

module _ {X Y : Type 0} (make : X → Y) (text : X → List Line) (V : X → Type 0) (f : List Line → Front Line X) (exact : IsExactText text V f) (other : Y → List Line) (W : Y → Type 0)
    (same : (x : X) → other (make x) ≡ text x) (to : (x : X) → V x → W (make x)) (from : (y : Y) → W y → (x : X) × ((y ≡ make x) × V x)) where
  abbrev made_front : List Line → Front Line Y
  made_front lines = made make (f lines)

  made_sound : (lines : List Line) (y : Y) (rest : List Line) (o : Front Line X) → f lines ≡ o → made make o ≡ Ok (y, rest) → (lines ≡ other y ++ rest) × W y
  made_sound lines y rest (Ok p) is e =
      let a = exact.reads.sound lines p.0 p.1 is in
      moved other W lines (make p.0) y p.1 rest e (a.0 ∙ ap (λ (ls : List Line). ls ++ p.1) (sym (same p.0))) (to p.0 a.1)
  made_sound lines y rest (Err l) is e = absurd cc

  made_again : (y : Y) (rest : List Line) → W y → made_front (other y ++ rest) ≡ Ok (y, rest)
  made_again y rest valid =
      let x = from y valid in
      let text_is : other y ≡ text x.0 = ap other x.1.0 ∙ same x.0 in
      ap (λ (ls : List Line). made_front (ls ++ rest)) text_is ∙ ap (made make) (exact.reads.again x.0 rest x.1.1 tt) ∙ ap (λ (z : Y). let o : Front Line Y = Ok (z, rest) in o) (sym x.1.0)

  made_case : (lines left : List Line) (o : Front Line X) → f lines ≡ o → made make o ≡ Err left → Stops other W made_front lines left
  made_case lines left (Ok p) is e = absurd cc
  made_case lines left (Err l) is e =
      let s = exact.stops lines left (stopped {X = X} {Y = Y} (f lines) l left is e) in
      record {
        front = s.front;
        parts = s.parts;
        value = make s.value;
        more = s.more;
        valid = to s.value s.valid;
        begins = same s.value ∙ s.begins;
        dead = λ line behind other same. ap (made make) (s.dead line behind other same);
      }

  pub made_exact : IsExactText other W made_front
  made_exact = record {
    reads = record { sound = λ lines y rest e. made_sound lines y rest (f lines) refl e; again = λ y rest valid any. made_again y rest valid };
    stops = λ lines left e. made_case lines left (f lines) refl e;
  }
