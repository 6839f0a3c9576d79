-- The links from an entry by its origins.
use Rattle.std.specs.Prelude.{◌≡◌, ℕ, List, [], ◌∷◌, ◌++◌, Some, None}
use Rattle.ras_core.specs.declared.origin.Origin.TheVariants.{Goal, Step}
use Rattle.ras_core.specs.declared.link.Link.{Link}
use Rattle.ras_core.specs.CoreStates.{EntryParts, CoreParts, IsEntry}

-- the link of the entry of the one number, whose origin is the entry of the other
pub record IsLinkTo (s : CoreParts) (number : ℕ) (l : Link) (next : ℕ) : Type 0 where
  pub entry : EntryParts
  pub is_entry : IsEntry s number entry
  pub transition : ℕ
  pub origin : entry.origin ≡ Step next transition
  pub is : l ≡ record { cube = entry.cube; transition = Some transition }

-- the links of the entries from the one number on, each the origin of the one before, and the number of the next
abbrev pub FollowOrigins : CoreParts → ℕ → List Link → ℕ → Type 0
FollowOrigins s number [] last = number ≡ last
FollowOrigins s number (l ∷ links) last = (next : ℕ) × IsLinkTo s number l next × FollowOrigins s next links last

-- the links of the entry of this number, of its origin, and so on, up to an entry that is a goal
pub record AreOrigins (s : CoreParts) (number : ℕ) (links : List Link) : Type 0 where
  pub front : List Link
  pub goal : Link
  pub parts : links ≡ front ++ goal ∷ []
  pub last : ℕ
  pub follow : FollowOrigins s number front last
  pub entry : EntryParts
  pub is_entry : IsEntry s last entry
  pub disjunct : ℕ
  pub origin : entry.origin ≡ Goal disjunct
  pub is : goal ≡ record { cube = entry.cube; transition = None }
