-- Narrow steps and code, put together.
use Rattle.std.proofs.Common.{◌≡◌, ℕ, ◌+◌, ◌≤◌, max, nat_lt, Bool, true, false, if◌then◌else◌, List, [], ◌∷◌, ◌++◌, refl, sym, subst, length, Option, Some, None, slice_get, arith}
use Rattle.std.specs.Prelude.{⊤}
use Rattle.nv_base.specs.declared.term.Atom.{Atom}
use Rattle.nv_base.specs.declared.term.Primitive.{Primitive}
use Rattle.nv_base.specs.Words.{atom_vars, prim_vars}
use Rattle.flat_ir.specs.declared.flat.Flat.{Flat}
use Rattle.flat_ir.specs.declared.flat.Flat.TheVariants.{Let', Fetch', Store', If', Bind', Call, Raise, Try', Give}
use Rattle.flat_ir.specs.declared.flat.FlatFun.{FlatFun}
use Rattle.flat_ir.specs.declared.spine.Step.{Step}
use Rattle.flat_ir.specs.declared.spine.Step.TheVariants.{Let, Fetch, Store, Bind}
use Rattle.flat_ir.specs.Spine.{AreNodes}
use Rattle.nv_base.specs.Sets.{different, without, all_vars}
use Rattle.nv_base.specs.Measures.{operands_wide, entry_wide}
use Rattle.flat_ir.specs.Wide.{live, Widths, call_wide, code_wide}
use Rattle.flat_ir.specs.Pieces.{new_vars, steps_live, steps_wide}
use Rattle.flat_ir.proofs.Parts.{nodes-live, nodes-wide}
use Rattle.flat_ir.proofs.Appended.{live-append, wide-append}
use Rattle.nv_flatten_values.specs.inner.Narrow.{IsWithin, AddsAtMost, NarrowSteps, NarrowCode}
use Rattle.nv_flatten_values.proofs.Within.{itself, of-none, one, both, unions, into-left, together, through, behind-same, before-same, both-same, turned, aside, aside-back, taken, at-most, at-most-more, grows-by, grows-not, grows-at, operands-at-most}

two-at-most : (m n limit : ℕ) → m ≤ limit → n ≤ limit → max m n ≤ limit
two-at-most m n limit p q = omega arith

-- of a node's operands, and of what is wanted after it, beside what is kept
front-and : (front behind kept : List ℕ) → IsWithin behind kept → IsWithin (front ++ behind) (kept ++ front)
front-and front behind kept h = through (behind-same front behind kept h) (turned front kept)

-- the operands of a store, of code that ends with some, and the variables of a handler
abbrev pub stored : Step → List Atom
stored (Let x a) = []
stored (Fetch m xs a) = []
stored (Store m a bs) = bs.items
stored (Bind xs t) = []

abbrev pub last : Flat → List Atom
last (Let' x a q t) = []
last (Fetch' m xs a q t) = []
last (Store' m a bs q t) = []
last (If' c a b q t r u) = []
last (Bind' xs q t r u) = []
last (Call f bs) = bs.items
last (Raise k bs) = bs.items
last (Try' q t k xs r u) = []
last (Give bs) = bs.items

abbrev pub handled : Flat → List ℕ
handled (Let' x a q t) = []
handled (Fetch' m xs a q t) = []
handled (Store' m a bs q t) = []
handled (If' c a b q t r u) = []
handled (Bind' xs q t r u) = []
handled (Call f bs) = []
handled (Raise k bs) = []
handled (Try' q t k xs r u) = xs.items
handled (Give bs) = []

module _ (funs : List FlatFun) (widths : Widths) (own : ℕ) where
  -- ---- steps

  pub no-steps : (before base behind : List ℕ) (m : ℕ) → IsWithin behind before → NarrowSteps funs widths own [] before base behind m
  no-steps before base behind m h = record {
    lives = λ kept wanted inside. through inside (behind-same kept behind before h);
    narrow = λ outside kept wanted n limit inside small room. small;
  }

  -- more before, less behind, another base
  pub recast : (ss : List Step) (before base behind before' base' behind' : List ℕ) (more m m' : ℕ) → NarrowSteps funs widths own ss before base behind m → IsWithin before before' → AddsAtMost base' base more → IsWithin behind' behind → more + m ≤ m'
      → NarrowSteps funs widths own ss before' base' behind' m'
  recast ss before base behind before' base' behind' more m m' v front g back le = record {
    lives = λ kept wanted inside. through (v.lives kept wanted (through inside (behind-same kept behind' behind back))) (behind-same kept before before' front);
    narrow = λ outside kept wanted n limit inside small room.
        let less : different (outside ++ (kept ++ base)) ≤ different (outside ++ (kept ++ base')) + more = grows-at base' base more outside kept g in
        v.narrow outside kept wanted n limit (through inside (behind-same kept behind' behind back)) small (omega arith);
  }

  -- some variables are kept beside
  pub beside : (f : List ℕ) (ss : List Step) (before base behind : List ℕ) (m : ℕ) → NarrowSteps funs widths own ss before base behind m → NarrowSteps funs widths own ss (before ++ f) (base ++ f) (behind ++ f) m
  beside f ss before base behind m v = record {
    lives = λ kept wanted inside. through (v.lives (kept ++ f) wanted (through inside (aside kept behind f))) (aside-back kept before f);
    narrow = λ outside kept wanted n limit inside small room.
        let less : different (outside ++ ((kept ++ f) ++ base)) ≤ different (outside ++ (kept ++ (base ++ f))) = at-most (outside ++ ((kept ++ f) ++ base)) (outside ++ (kept ++ (base ++ f))) (behind-same outside ((kept ++ f) ++ base) (kept ++ (base ++ f)) (aside-back kept base f)) in
        v.narrow outside (kept ++ f) wanted n limit (through inside (aside kept behind f)) small (omega arith);
  }

  pub follow : (a b : List Step) (before base mid behind : List ℕ) (m : ℕ) → NarrowSteps funs widths own a before base mid m → NarrowSteps funs widths own b mid base behind m → NarrowSteps funs widths own (a ++ b) before base behind m
  follow a b before base mid behind m v u = record {
    lives = λ kept wanted inside. subst (λ l. IsWithin l (kept ++ before)) (sym (live-append a b wanted)) (v.lives kept (steps_live b wanted) (u.lives kept wanted inside));
    narrow = λ outside kept wanted n limit inside small room.
        subst (λ k. k ≤ limit) (sym (wide-append funs widths own outside a b wanted n))
        (v.narrow outside kept (steps_live b wanted) (steps_wide funs widths own outside b wanted n) limit (u.lives kept wanted inside) (u.narrow outside kept wanted n limit inside small room) room);
  }

  -- one after another, where the first one's result is kept beside the second
  pub in-turn : (a b : List Step) (va vb s u : List ℕ) (m k words all : ℕ) → NarrowSteps funs widths own a va va s m → NarrowSteps funs widths own b vb vb u k → length s ≤ words → m ≤ all → words + k ≤ all
      → NarrowSteps funs widths own (a ++ b) (va ++ vb) (va ++ vb) (s ++ u) all
  in-turn a b va vb s u m k words all v w le p q =
      follow a b (va ++ vb) (va ++ vb) (s ++ vb) (s ++ u) all
      (recast a (va ++ vb) (va ++ vb) (s ++ vb) (va ++ vb) (va ++ vb) (s ++ vb) 0 m all (beside vb a va va s m v) itself (grows-not (va ++ vb) (va ++ vb) itself) itself (omega arith))
      (recast b (vb ++ s) (vb ++ s) (u ++ s) (s ++ vb) (va ++ vb) (s ++ u) words k all (beside s b vb vb u k w) (turned vb s) (grows-by s (va ++ vb) (vb ++ s) words (unions (va ∷ vb ∷ s ∷ []) (both (one 1) (one 2)) (both (one 2) (both (one 0) (one 1))) refl) le) (turned s u) q)

  -- ---- single steps

  pub let-step : (x : ℕ) (a : Primitive) → NarrowSteps funs widths own (Let x a ∷ []) (prim_vars a) (prim_vars a) (x ∷ []) 3
  let-step x a = record {
    lives = λ kept wanted inside. front-and (prim_vars a) (without wanted (x ∷ [])) kept (taken wanted (x ∷ []) kept inside);
    narrow = λ outside kept wanted n limit inside small room.
        let here = prim_vars a ++ without wanted (x ∷ []) in
        let less : different (outside ++ here) ≤ different (outside ++ (kept ++ prim_vars a)) =
        at-most (outside ++ here) (outside ++ (kept ++ prim_vars a)) (behind-same outside here (kept ++ prim_vars a) (front-and (prim_vars a) (without wanted (x ∷ [])) kept (taken wanted (x ∷ []) kept inside))) in
        two-at-most (different (outside ++ here) + 3) n limit (omega arith) small;
  }

  pub fetch-step : (memory : _) (xs : _) (a : Atom) (k : ℕ) → 2 ≤ k → length (new_vars (Fetch memory xs a)) ≤ k → NarrowSteps funs widths own (Fetch memory xs a ∷ []) (atom_vars a) [] (new_vars (Fetch memory xs a)) k
  fetch-step memory xs a k two le = record {
    lives = λ kept wanted inside. front-and (atom_vars a) (without wanted xs.items) kept (taken wanted xs.items kept inside);
    narrow = λ outside kept wanted n limit inside small room.
        let here = outside ++ without wanted xs.items in
        let first : different here ≤ different (outside ++ (kept ++ [])) = at-most here (outside ++ (kept ++ [])) (behind-same outside (without wanted xs.items) (kept ++ []) (into-left (without wanted xs.items) kept [] (taken wanted xs.items kept inside))) in
        let there = outside ++ (xs.items ++ wanted) in
        let second : different there ≤ different (outside ++ (kept ++ [])) + length xs.items =
        at-most-more xs.items (outside ++ (kept ++ [])) there
        (through (behind-same outside (xs.items ++ wanted) (xs.items ++ (kept ++ xs.items)) (behind-same xs.items wanted (kept ++ xs.items) inside))
        (unions (outside ∷ xs.items ∷ kept ∷ [] ∷ []) (both (one 0) (both (one 1) (both (one 2) (one 1)))) (both (one 1) (both (one 0) (both (one 2) (one 3)))) refl)) in
        let wide : operands_wide here (a ∷ []) ≤ different here + (1 + 1) = operands-at-most here (a ∷ []) in
        two-at-most (max (operands_wide here (a ∷ [])) (different there)) n limit (two-at-most (operands_wide here (a ∷ [])) (different there) limit (omega arith) (omega arith)) small;
  }

  pub store-step : (memory : _) (a : Atom) (bs : _) (k : ℕ) → length (stored (Store memory a bs)) + 2 ≤ k → NarrowSteps funs widths own (Store memory a bs ∷ []) (all_vars (a ∷ stored (Store memory a bs))) [] [] k
  store-step memory a bs k le = record {
    lives = λ kept wanted inside. front-and (all_vars (a ∷ bs.items)) wanted kept (through inside (together kept [] kept itself (of-none kept)));
    narrow = λ outside kept wanted n limit inside small room.
        let here = outside ++ wanted in
        let first : different here ≤ different (outside ++ (kept ++ [])) = at-most here (outside ++ (kept ++ [])) (behind-same outside wanted (kept ++ []) inside) in
        let wide : operands_wide here (a ∷ bs.items) ≤ different here + (length (a ∷ bs.items) + 1) = operands-at-most here (a ∷ bs.items) in
        two-at-most (operands_wide here (a ∷ bs.items)) n limit (omega arith) small;
  }

  pub bind-step : (xs : _) (t : Flat) (before base : List ℕ) (k : ℕ) → NarrowCode funs widths own t before base k → length (new_vars (Bind xs t)) + 1 ≤ k → NarrowSteps funs widths own (Bind xs t ∷ []) before base (new_vars (Bind xs t)) k
  bind-step xs t before base k c le = record {
    lives = λ kept wanted inside. through (before-same (without wanted xs.items) (live t) before c.lives) (front-and before (without wanted xs.items) kept (taken wanted xs.items kept inside));
    narrow = λ outside kept wanted n limit inside small room.
        let held = outside ++ without wanted xs.items in
        let less : different held ≤ different (outside ++ (kept ++ base)) = at-most held (outside ++ (kept ++ base)) (behind-same outside (without wanted xs.items) (kept ++ base) (into-left (without wanted xs.items) kept base (taken wanted xs.items kept inside))) in
        let more : different (held ++ base) ≤ different (outside ++ (kept ++ base)) =
        at-most (held ++ base) (outside ++ (kept ++ base))
        (through (before-same base held (outside ++ kept) (behind-same outside (without wanted xs.items) kept (taken wanted xs.items kept inside))) (unions (outside ∷ kept ∷ base ∷ []) (both (both (one 0) (one 1)) (one 2)) (both (one 0) (both (one 1) (one 2))) refl)) in
        two-at-most (max (code_wide funs widths own held t) (entry_wide held (length xs.items))) n limit
        (two-at-most (code_wide funs widths own held t) (entry_wide held (length xs.items)) limit (c.narrow held limit (omega arith)) (omega arith)) small;
  }

  -- ---- code

  pub joined : (ss : List Step) (t u : Flat) (before base behind : List ℕ) (m : ℕ) → NarrowSteps funs widths own ss before base behind m → NarrowCode funs widths own t behind base m → AreNodes ss t u → NarrowCode funs widths own u before base m
  joined ss t u before base behind m v c nodes = record {
    lives = subst (λ l. IsWithin l before) (sym (nodes-live ss t u nodes)) (v.lives [] (live t) c.lives);
    narrow = λ outside limit room.
        subst (λ k. k ≤ limit) (sym (nodes-wide funs widths own outside ss t u nodes))
        (v.narrow outside [] (live t) (code_wide funs widths own outside t) limit c.lives (c.narrow outside limit room) room);
  }

  pub recast-code : (t : Flat) (before base before' base' : List ℕ) (more m m' : ℕ) → NarrowCode funs widths own t before base m → IsWithin before before' → AddsAtMost base' base more → more + m ≤ m' → NarrowCode funs widths own t before' base' m'
  recast-code t before base before' base' more m m' c front g le = record {
    lives = through c.lives front;
    narrow = λ outside limit room.
        let less : different (outside ++ base) ≤ different (outside ++ base') + more = g.by outside in
        c.narrow outside limit (omega arith);
  }

  last-operands : (bs : List Atom) (k : ℕ) (outside : List ℕ) (limit : ℕ) → length bs + 1 ≤ k → different (outside ++ []) + k ≤ limit → operands_wide outside bs ≤ limit
  last-operands bs k outside limit le room = omega (arith, operands-at-most outside bs, at-most outside (outside ++ []) (into-left outside outside [] itself))

  pub give-code : (bs : _) (k : ℕ) → length (last (Give bs)) + 1 ≤ k → NarrowCode funs widths own (Give bs) (all_vars (last (Give bs))) [] k
  give-code bs k le = record { lives = itself; narrow = λ outside limit room. last-operands bs.items k outside limit le room }

  pub raise-code : (j : _) (bs : _) (k : ℕ) → length (last (Raise j bs)) + 1 ≤ k → NarrowCode funs widths own (Raise j bs) (all_vars (last (Raise j bs))) [] k
  raise-code j bs k le = record { lives = itself; narrow = λ outside limit room. last-operands bs.items k outside limit le room }

  -- what a call of this function counts beside what is held
  abbrev pub CallAtMost : Option FlatFun → ℕ → Type 0
  CallAtMost None k = ⊤
  CallAtMost (Some f) k = nat_lt f.group own ≡ true → max (widths f.group) (f.results + 1) ≤ k

  earlier-at-most : (b : Bool) (held n k limit : ℕ) → (b ≡ true → n ≤ k) → held + k ≤ limit → (if b then held + n else 0) ≤ limit
  earlier-at-most true held n k limit h room = let le : n ≤ k = h refl in omega arith
  earlier-at-most false held n k limit h room = omega arith

  call-at-most : (o : Option FlatFun) (held k limit : ℕ) → CallAtMost o k → held + k ≤ limit → call_wide widths own held o ≤ limit
  call-at-most None held k limit h room = omega arith
  call-at-most (Some f) held k limit h room = earlier-at-most (nat_lt f.group own) held (max (widths f.group) (f.results + 1)) k limit h room

  pub call-code : (f : ℕ) (bs : _) (k : ℕ) → length (last (Call f bs)) + 1 ≤ k → CallAtMost (slice_get funs f) k → NarrowCode funs widths own (Call f bs) (all_vars (last (Call f bs))) [] k
  call-code f bs k le h = record {
    lives = itself;
    narrow = λ outside limit room.
        let less : different outside ≤ different (outside ++ []) = at-most outside (outside ++ []) (into-left outside outside [] itself) in
        two-at-most (operands_wide outside bs.items) (call_wide widths own (different outside) (slice_get funs f)) limit (last-operands bs.items k outside limit le room)
        (call-at-most (slice_get funs f) (different outside) k limit h (omega arith));
  }

  pub if-code : (cmp : _) (a b : Atom) (q r : _) (t u : Flat) (front second base : List ℕ) (k : ℕ) → NarrowCode funs widths own t front base k → NarrowCode funs widths own u second base k → IsWithin front base → IsWithin second base → 3 ≤ k
      → NarrowCode funs widths own (If' cmp a b q t r u) (all_vars (a ∷ b ∷ []) ++ (front ++ second)) base k
  if-code cmp a b q r t u front second base k c d inside inside' three = record {
    lives = behind-same (all_vars (a ∷ b ∷ [])) (live t ++ live u) (front ++ second) (both-same (live t) front (live u) second c.lives d.lives);
    narrow = λ outside limit room.
        let here = outside ++ (live t ++ live u) in
        let less : different here ≤ different (outside ++ base) = at-most here (outside ++ base) (behind-same outside (live t ++ live u) base (together (live t) (live u) base (through c.lives inside) (through d.lives inside'))) in
        let wide : operands_wide here (a ∷ b ∷ []) ≤ different here + (2 + 1) = operands-at-most here (a ∷ b ∷ []) in
        two-at-most (operands_wide here (a ∷ b ∷ [])) (max (code_wide funs widths own outside t) (code_wide funs widths own outside u)) limit (omega arith)
        (two-at-most (code_wide funs widths own outside t) (code_wide funs widths own outside u) limit (c.narrow outside limit room) (d.narrow outside limit room));
  }

  pub try-code : (q : _) (t : Flat) (j : _) (xs : _) (r : _) (u : Flat) (front second base : List ℕ) (m k all : ℕ) → NarrowCode funs widths own t front base m → NarrowCode funs widths own u (handled (Try' q t j xs r u) ++ second) (handled (Try' q t j xs r u) ++ base) k
      → IsWithin second base → m ≤ all → length (handled (Try' q t j xs r u)) + k ≤ all → length (handled (Try' q t j xs r u)) + 1 ≤ all → NarrowCode funs widths own (Try' q t j xs r u) (front ++ second) base all
  try-code q t j xs r u front second base m k all c d inside p1 p2 p3 = record {
    lives = both-same (live t) front (without (live u) xs.items) second c.lives (taken (live u) xs.items second (through d.lives (turned xs.items second)));
    narrow = λ outside limit room.
        let kept = without (live u) xs.items in
        let held = outside ++ kept in
        let small : IsWithin kept base = through (taken (live u) xs.items second (through d.lives (turned xs.items second))) inside in
        let less : different held ≤ different (outside ++ base) = at-most held (outside ++ base) (behind-same outside kept base small) in
        let more : different (held ++ base) ≤ different (outside ++ base) = at-most (held ++ base) (outside ++ base) (through (before-same base held (outside ++ base) (behind-same outside kept base small)) (unions (outside ∷ base ∷ []) (both (both (one 0) (one 1)) (one 1)) (both (one 0) (one 1)) refl)) in
        let handler : different (outside ++ (xs.items ++ base)) ≤ different (outside ++ base) + length xs.items =
        at-most-more xs.items (outside ++ base) (outside ++ (xs.items ++ base)) (unions (outside ∷ xs.items ∷ base ∷ []) (both (one 0) (both (one 1) (one 2))) (both (one 1) (both (one 0) (one 2))) refl) in
        two-at-most (max (code_wide funs widths own held t) (entry_wide held (length xs.items))) (code_wide funs widths own outside u) limit
        (two-at-most (code_wide funs widths own held t) (entry_wide held (length xs.items)) limit (c.narrow held limit (omega arith)) (omega arith))
        (d.narrow outside limit (omega arith));
  }
