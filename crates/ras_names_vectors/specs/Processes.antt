-- The texts of three systems.
use Rattle.std.specs.Prelude.{[], ◌∷◌, Some, None}
use Rattle.ras_names.specs.Placed.{undef, plain, cell, always, all, File}
use Rattle.ras_names_vectors.specs.Words.{name, declared, total, nullable, initial, variable, relation, term, bare, same, apart, guard, update, assignment, case, each, step, goal, named}

-- system hiring;
-- sort User;
-- sort Job;
-- total owner : Job -> User;
-- relation apps (job : Job, who : User);
-- step apply {
--   row a : apps;
--   param j : Job;
--   when a.job = undef and j != undef;
--   a.job := j;
--   a.who := owner(j);
-- }
-- step withdraw {
--   row a : apps;
--   when a.job != undef;
--   a.job := undef;
--   a.who := undef;
-- }
-- unsafe {
--   row a : apps;
--   when a.who != owner(a.job);
-- }
abbrev pub hiring_text : File
hiring_text = record (named (name 7 "hiring")) {
  sorts = name 20 "User" ∷ name 31 "Job" ∷ [];
  functions =
      total (name 42 "owner") (name 50 "Job") (name 57 "User") ∷ [];
  relations =
      relation (name 72 "apps") (declared (name 78 "job") (name 84 "Job")) (declared (name 89 "who") (name 95 "User") ∷ []) ∷ [];
  steps =
      step (name 107 "apply") (declared (name 121 "a") (name 125 "apps") ∷ []) (declared (name 139 "j") (name 143 "Job") ∷ []) (guard (all (same (bare (cell (name 155 "a") (name 157 "job"))) 161 (bare (undef 163))) (apart (bare (plain (name 173 "j"))) 175 (bare (undef 178)) ∷ [])) []) (update (name 187 "a") (Some (name 189 "job")) 193 (bare (plain (name 196 "j"))) ∷ update (name 201 "a") (Some (name 203 "who")) 207 (term (name 210 "owner" ∷ []) (plain (name 216 "j"))) ∷ []) []
      ∷ step (name 227 "withdraw") (declared (name 244 "a") (name 248 "apps") ∷ []) [] (guard (all (apart (bare (cell (name 261 "a") (name 263 "job"))) 267 (bare (undef 270))) []) []) (update (name 279 "a") (Some (name 281 "job")) 285 (bare (undef 288)) ∷ update (name 297 "a") (Some (name 299 "who")) 303 (bare (undef 306)) ∷ []) [] ∷ [];
  goals =
      goal (declared (name 330 "a") (name 334 "apps") ∷ []) (guard (all (apart (bare (cell (name 347 "a") (name 349 "who"))) 353 (term (name 356 "owner" ∷ []) (cell (name 362 "a") (name 364 "job")))) []) []) ∷ [];
}

-- system desk; sort U; const on : U; const off : U; var m : U = off; relation seat (s : U); step take { row a : seat;
-- when a.s = undef; a.s := on; } step clear { row a : seat; when a.s = on; m := on; each q : seat { if q.s = on { q.s :=
-- off; } if q.s = undef { q.s := on; } } } unsafe { row a : seat; row b : seat; when a.s = off and b.s = on; }
abbrev pub desk_text : File
desk_text = record (named (name 7 "desk")) {
  sorts = name 18 "U" ∷ [];
  constants = declared (name 27 "on") (name 32 "U") ∷ declared (name 41 "off") (name 47 "U") ∷ [];
  variables = variable (name 54 "m") (name 58 "U") (Some (initial 60 (name 62 "off"))) ∷ [];
  relations =
      relation (name 76 "seat") (declared (name 82 "s") (name 86 "U")) [] ∷ [];
  steps =
      step (name 95 "take") (declared (name 106 "a") (name 110 "seat") ∷ []) [] (guard (all (same (bare (cell (name 121 "a") (name 123 "s"))) 125 (bare (undef 127))) []) []) (update (name 134 "a") (Some (name 136 "s")) 138 (bare (plain (name 141 "on"))) ∷ []) []
      ∷ step (name 152 "clear") (declared (name 164 "a") (name 168 "seat") ∷ []) [] (guard (all (same (bare (cell (name 179 "a") (name 181 "s"))) 183 (bare (plain (name 185 "on")))) []) []) (update (name 189 "m") None 191 (bare (plain (name 194 "on"))) ∷ []) (each (name 203 "q") (name 207 "seat") (case 214 (all (same (bare (cell (name 217 "q") (name 219 "s"))) 221 (bare (plain (name 223 "on")))) []) (assignment (name 228 "q") (name 230 "s") 232 (bare (plain (name 235 "off"))) ∷ [])) (case 242 (all (same (bare (cell (name 245 "q") (name 247 "s"))) 249 (bare (undef 251))) []) (assignment (name 259 "q") (name 261 "s") 263 (bare (plain (name 266 "on"))) ∷ []) ∷ []) ∷ []) ∷ [];
  goals =
      goal (declared (name 289 "a") (name 293 "seat") ∷ declared (name 303 "b") (name 307 "seat") ∷ []) (guard (all (same (bare (cell (name 318 "a") (name 320 "s"))) 322 (bare (plain (name 324 "off")))) (same (bare (cell (name 332 "b") (name 334 "s"))) 336 (bare (plain (name 338 "on"))) ∷ [])) []) ∷ [];
}

-- system p;sort A;sort B;nullable n:B->A;var x:A;unsafe{when n(undef)!=x or true;}
abbrev pub nullable_text : File
nullable_text = record (named (name 7 "p")) {
  sorts = name 14 "A" ∷ name 21 "B" ∷ [];
  functions =
      nullable (name 32 "n") (name 34 "B") (name 37 "A") ∷ [];
  variables = variable (name 43 "x") (name 45 "A") None ∷ [];
  goals =
      goal [] (guard (all (apart (term (name 59 "n" ∷ []) (undef 61)) 67 (bare (plain (name 69 "x")))) []) (always 74 ∷ [])) ∷ [];
}
