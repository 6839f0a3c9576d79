-- The links from an entry by its origins are a chain.
use Rattle.std.proofs.Common.{◌≡◌, ℕ, ◌<◌, List, [], ◌∷◌, ◌++◌, length, get_or, take, refl, sym, ◌∙◌, ap, subst}
use Rattle.std.specs.Prelude.{slice_get, Some, None}
use Rattle.std.proofs.lemmas.Option.{slice_get-get_or, slice_get_read}
use Rattle.ras_logic.specs.declared.problem.Problem.{Problem}
use Rattle.ras_logic.proofs.ByPlace.{one_value}
use Rattle.ras_core.specs.declared.origin.Origin.{Origin}
use Rattle.ras_core.specs.declared.origin.Origin.TheVariants.{Goal, Step}
use Rattle.ras_core.specs.declared.link.Link.{Link}
use Rattle.ras_core.specs.CoreStates.{EntryParts, CoreParts, IsEntry, cubes_of}
use Rattle.ras_core.specs.Admissible.{ComesFrom, AllLead, LeadsToEntry}
use Rattle.ras_core.specs.Chains.{first_cube, LeadsOn, LeadAlong, IsChain}
use Rattle.ras_core.proofs.Lists.{of-map, of-take}
use Rattle.ras_core.proofs.Journals.{journal-sound}
use Rattle.ras_store.specs.Stores.{StoreParts}
use Rattle.ras_store.specs.Lawful.{IsLawfulStore}
use Rattle.ras_store.specs.Following.{IsLinkTo, FollowOrigins, AreOrigins}

follow_push : (s : CoreParts) (number : ℕ) (links : List Link) (last : ℕ) (l : Link) (next : ℕ) → FollowOrigins s number links last → IsLinkTo s last l next → FollowOrigins s number (links ++ l ∷ []) next
follow_push s number [] last l next follow is = (next, subst (λ (n : ℕ). IsLinkTo s n l next) (sym follow) is, refl)
follow_push s number (k ∷ links) last l next follow is = (follow.0, follow.1, follow_push s follow.0 links last l next follow.2 is)

-- the entry that was read
pub entry_read : (s : CoreParts) (entries : List EntryParts) (at : ℕ) (e : EntryParts) → entries ≡ s.entries → at < length entries → e ≡ get_or entries at e → IsEntry s at e
entry_read s entries at e here lt read = subst (λ (es : List EntryParts). slice_get es at ≡ Some e) here (slice_get_read entries (length entries) at e refl lt read)

-- one link more
pub follow_on : (s : CoreParts) (number at : ℕ) (links now : List Link) (l : Link) (e : EntryParts) (next transition : ℕ) → FollowOrigins s number links at → IsEntry s at e
    → e.origin ≡ Step next transition → l ≡ record { cube = e.cube; transition = Some transition } → now ≡ links ++ l ∷ [] → FollowOrigins s number now next
follow_on s number at links now l e next transition follow known origin is now_is =
    subst (λ (ls : List Link). FollowOrigins s number ls next) (sym now_is)
    (follow_push s number links at l next follow (record { entry = e; is_entry = known; transition = transition; origin = origin; is = is }))

-- the last link
pub follow_end : (s : CoreParts) (number at : ℕ) (links now : List Link) (l : Link) (e : EntryParts) (disjunct : ℕ) → FollowOrigins s number links at → IsEntry s at e
    → e.origin ≡ Goal disjunct → l ≡ record { cube = e.cube; transition = None } → now ≡ links ++ l ∷ [] → AreOrigins s number now
follow_end s number at links now l e disjunct follow known origin is now_is = record {
  front = links;
  goal = l;
  parts = now_is;
  last = at;
  follow = follow;
  entry = e;
  is_entry = known;
  disjunct = disjunct;
  origin = origin;
  is = is;
}

module _ (s : StoreParts) (lawful : IsLawfulStore s) where
  comes_of : (at : ℕ) (e : EntryParts) → IsEntry s.state at e → ComesFrom s.system (take at (cubes_of s.state)) e.origin e.cube
  comes_of at e known = ((journal-sound s.system s.budget s.state.base s.journal s.state lawful.replays).entries at e known).comes

  step_of : (at next transition : ℕ) (e : EntryParts) → IsEntry s.state at e → e.origin ≡ Step next transition → LeadsToEntry s.system (take at (cubes_of s.state)) next transition e.cube
  step_of at next transition e known origin = subst (λ (o : Origin). ComesFrom s.system (take at (cubes_of s.state)) o e.cube) origin (comes_of at e known)

  -- the origin of an entry is an earlier one
  pub origin_before : (at next transition : ℕ) (e : EntryParts) → IsEntry s.state at e → e.origin ≡ Step next transition → next < at
  origin_before at next transition e known origin =
      let comes = step_of at next transition e known origin in
      (of-take at (cubes_of s.state) next comes.target comes.known).0

  origin_entry : (at next transition : ℕ) (e : EntryParts) → IsEntry s.state at e → e.origin ≡ Step next transition
      → (m : EntryParts) × IsEntry s.state next m × AllLead s.system transition m.cube e.cube
  origin_entry at next transition e known origin =
      let comes = step_of at next transition e known origin in
      let there = of-take at (cubes_of s.state) next comes.target comes.known in
      let m = of-map (λ (x : EntryParts). x.cube) s.state.entries next comes.target there.1 in
      (m.0, m.1, subst (λ (c : Problem). AllLead s.system transition c e.cube) (sym m.2) comes.leads)

  lead : (number : ℕ) (links : List Link) (last : ℕ) (first goal : EntryParts) → IsEntry s.state number first → IsEntry s.state last goal → FollowOrigins s.state number links last
      → (first_cube links goal.cube ≡ first.cube) × LeadAlong s.system links goal.cube
  lead number [] last first goal at_first at_goal follow =
      (ap (λ (e : EntryParts). e.cube) (one_value s.state.entries last goal first at_goal (subst (λ (n : ℕ). IsEntry s.state n first) follow at_first)), tt)
  lead number (l ∷ links) last first goal at_first at_goal follow =
      let next = follow.0 in
      let is = follow.1 in
      let m = origin_entry number next is.transition is.entry is.is_entry is.origin in
      let rest = lead next links last m.0 goal m.1 at_goal follow.2 in
      let cube : l.cube ≡ is.entry.cube = ap (λ (x : Link). x.cube) is.is in
      let formula = (step_of number next is.transition is.entry is.is_entry is.origin).formula in
      let on : LeadsOn s.system (record { cube = is.entry.cube; transition = Some is.transition }) (first_cube links goal.cube) = record {
        formula = formula;
        transition = is.transition;
        by = refl;
        leads = subst (λ (c : Problem). AllLead s.system is.transition c is.entry.cube) (sym rest.0) m.2;
      } in (
        cube ∙ ap (λ (e : EntryParts). e.cube) (one_value s.state.entries number is.entry first is.is_entry at_first),
        (subst (λ (x : Link). LeadsOn s.system x (first_cube links goal.cube)) (sym is.is) on, rest.1),
      )

  origins_chain : (number : ℕ) (links : List Link) (first : EntryParts) → IsEntry s.state number first → AreOrigins s.state number links → IsChain s.system first.cube links
  origins_chain number links first at_first are =
      let l = lead number are.front are.last first are.entry at_first are.is_entry are.follow in
      let cube : are.entry.cube ≡ are.goal.cube = sym (ap (λ (x : Link). x.cube) are.is) in
      record {
        front = are.front;
        goal = are.goal;
        parts = are.parts;
        begins = subst (λ (c : Problem). first_cube are.front c ≡ first.cube) cube l.0;
        lead = subst (λ (c : Problem). LeadAlong s.system are.front c) cube l.1;
        ends = ap (λ (x : Link). x.transition) are.is;
        disjunct = are.disjunct;
        is_goal = subst (λ (c : Problem). slice_get s.system.goals are.disjunct ≡ Some c) cube
            (subst (λ (o : Origin). ComesFrom s.system (take are.last (cubes_of s.state)) o are.entry.cube) are.origin (comes_of are.last are.entry are.is_entry));
      }

  pub chain_there : (number : ℕ) (links : List Link) → number < length s.state.entries → AreOrigins s.state number links
      → (e : EntryParts) × IsEntry s.state number e × IsChain s.system e.cube links
  chain_there number links lt are =
      let e : EntryParts = get_or s.state.entries number are.entry in
      let at : IsEntry s.state number e = slice_get-get_or s.state.entries number are.entry lt in
      (e, at, origins_chain number links e at are)
