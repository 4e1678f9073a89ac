-- Lowered code wants at most what is live in the flat code or outside of it, and is at most as wide.
use Rattle.std.proofs.Common.{ℕ, ◌+◌, ◌≤◌, max, Bool, ◌||◌, List, [], ◌∷◌, ◌++◌, length, Option, Some, slice_get, arith}
use Rattle.std.proofs.lemmas.Bool.{or_left, or_right}
use Rattle.nv_base.specs.Words.{prim_vars, atom_vars}
use Rattle.nv_base.specs.Sets.{without, all_vars}
use Rattle.nv_base.specs.Measures.{Widths}
use Rattle.nv_base.proofs.Sets.{different-below}
use Rattle.nv_base.proofs.Measures.{operands-more, let-more, entry-more, max-mono}
use Rattle.flat_ir.specs.declared.flat.Flat.{Flat}
use Rattle.flat_ir.specs.declared.flat.Flat.TheVariants.{Let', Fetch', Store', If', Bind', Call, Raise, Try', Give}
use Rattle.flat_ir.specs.declared.flat.FlatFun.{FlatFun}
use Rattle.flat_ir.specs.Wide.{live, code_wide}
use Rattle.cps_ir.specs.Meaning.{handler_of}
use Rattle.cps_ir.specs.Term.{Handler}
use Rattle.cps_ir.specs.Wide.{Wants, wants, term_wide}
use Rattle.cps_lower.specs.inner.Lowered.{labels, is_earlier, lowered, hands_on, lowered_all}
use Rattle.cps_lower.proofs.WidthsSets.{IsWithin, within-trans, within-both, within-nil, within-behind, moved, joined, before}
use Rattle.cps_lower.proofs.Widths.{over, IsInside, Returns, inside_more, in_body, in_bind, in_try, taken_within, raise_wants, give_wants, call_wants, raise-wide, give-wide, calls-wide}

-- ---- which parts use the label 0

returns-first : (a b : Bool) (k : Option ℕ) (returns : Bool) → Returns (a || b) k returns → Returns a k returns
returns-first a b k returns h = λ none uses. h none (or_left a b uses)

returns-second : (a b : Bool) (k : Option ℕ) (returns : Bool) → Returns (a || b) k returns → Returns b k returns
returns-second a b k returns h = λ none uses. h none (or_right a b uses)

returns-label : (uses : Bool) (l : ℕ) (returns : Bool) → Returns uses (Some l) returns
returns-label uses l returns = λ none used. cc

fix-at : (e f b c t u : ℕ) → e ≤ f → b ≤ c → t ≤ u → max (max (max e b) 0) t ≤ max (max u f) c
fix-at e f b c t u x y z = omega arith

-- ---- code

module _ (funs : List FlatFun) (own : ℕ) where
  -- what one label wants, of whose body this much is known
  label-wants : (phi : Wants) (out xs : List ℕ) (n : ℕ) (u : Flat) (k : Option ℕ) (hs : List Handler) (m : ℕ) → IsWithin (wants (over phi n []) (lowered funs own u m k hs)) (out ++ live u)
      → IsWithin (without (wants (over phi n []) (lowered funs own u m k hs)) xs ++ []) (out ++ without (live u) xs)
  label-wants phi out xs n u k hs m h = within-both (within-behind out (live u) xs h) (within-nil (out ++ without (live u) xs))

  pub lowered-wants : (t : Flat) (n : ℕ) (k : Option ℕ) (hs : List Handler) (phi : Wants) (out : List ℕ) (returns : Bool) → IsInside phi n k hs out returns → Returns (hands_on funs own t) k returns
      → IsWithin (wants phi (lowered funs own t n k hs)) (out ++ live t)
  lowered-wants (Let' x a q t) n k hs phi out returns h e = before out (prim_vars a) (without (live t) (x ∷ [])) (within-behind out (live t) (x ∷ []) (lowered-wants t n k hs phi out returns h e))
  lowered-wants (Fetch' m xs a q t) n k hs phi out returns h e = before out (atom_vars a) (without (live t) xs.items) (within-behind out (live t) xs.items (lowered-wants t n k hs phi out returns h e))
  lowered-wants (Store' m a bs q t) n k hs phi out returns h e = before out (all_vars (a ∷ bs.items)) (live t) (lowered-wants t n k hs phi out returns h e)
  lowered-wants (If' c a b q t r u) n k hs phi out returns h e =
      let first = lowered-wants t n k hs phi out returns h (returns-first (hands_on funs own t) (hands_on funs own u) k returns e) in
      let second = lowered-wants u (n + labels t) k hs phi out returns (inside_more (n + labels t) (omega arith) h) (returns-second (hands_on funs own t) (hands_on funs own u) k returns e) in
      before out (all_vars (a ∷ b ∷ [])) (live t ++ live u) (joined out (live t) (live u) first second)
  lowered-wants (Bind' xs q t r u) n k hs phi out returns h e =
      let m = n + 1 + labels t in
      let rest = lowered-wants u m k hs (over phi n []) out returns (in_body [] m (omega arith) h) e in
      let vs = without (wants (over phi n []) (lowered funs own u m k hs)) xs.items ++ [] in
      let held = without (live u) xs.items in
      within-trans (lowered-wants t (n + 1) (Some n) hs (over phi n vs) (out ++ held) returns (in_bind vs held (label-wants phi out xs.items n u k hs m rest) h) (returns-label (hands_on funs own t) n returns)) (moved out held (live t))
  lowered-wants (Call f bs) n k hs phi out returns h e = call_wants phi n k hs out returns (is_earlier own (slice_get funs f)) f bs.items h e
  lowered-wants (Raise x bs) n k hs phi out returns h e = raise_wants phi (handler_of x hs) x bs.items out (taken_within phi n x out hs h.handlers)
  lowered-wants (Try' q t x xs r u) n k hs phi out returns h e =
      let m = n + 1 + labels t in
      let rest = lowered-wants u m k hs (over phi n []) out returns (in_body [] m (omega arith) h) (returns-second (hands_on funs own t) (hands_on funs own u) k returns e) in
      let vs = without (wants (over phi n []) (lowered funs own u m k hs)) xs.items ++ [] in
      let held = without (live u) xs.items in
      within-trans
      (lowered-wants t (n + 1) k ((x, n) ∷ hs) (over phi n vs) (out ++ held) returns (in_try x vs held (label-wants phi out xs.items n u k hs m rest) h) (returns-first (hands_on funs own t) (hands_on funs own u) k returns e))
      (moved out held (live t))
  lowered-wants (Give bs) n k hs phi out returns h e = give_wants phi k bs.items out h.to

module _ (funs : List FlatFun) (own : ℕ) (w : Widths) where
  pub lowered-wide : (t : Flat) (n : ℕ) (k : Option ℕ) (hs : List Handler) (phi : Wants) (out : List ℕ) (returns : Bool) → IsInside phi n k hs out returns → Returns (hands_on funs own t) k returns
      → term_wide (lowered_all funs) w own phi (lowered funs own t n k hs) ≤ code_wide funs w own out t
  lowered-wide (Let' x a q t) n k hs phi out returns h e = max-mono _ _ _ _ (let-more _ _ (lowered-wants funs own (Let' x a q t) n k hs phi out returns h e).has) (lowered-wide t n k hs phi out returns h e)
  lowered-wide (Fetch' m xs a q t) n k hs phi out returns h e =
      let behind = lowered-wants funs own t n k hs phi out returns h e in
      max-mono _ _ _ _
      (max-mono _ _ _ _ (operands-more _ (out ++ without (live t) xs.items) (a ∷ []) (within-behind out (live t) xs.items behind).has) (different-below _ (out ++ (xs.items ++ live t)) (before out xs.items (live t) behind).has))
      (lowered-wide t n k hs phi out returns h e)
  lowered-wide (Store' m a bs q t) n k hs phi out returns h e =
      max-mono _ _ _ _ (operands-more _ (out ++ live t) (a ∷ bs.items) (lowered-wants funs own t n k hs phi out returns h e).has) (lowered-wide t n k hs phi out returns h e)
  lowered-wide (If' c a b q t r u) n k hs phi out returns h e =
      let e1 = returns-first (hands_on funs own t) (hands_on funs own u) k returns e in
      let e2 = returns-second (hands_on funs own t) (hands_on funs own u) k returns e in
      let h2 = inside_more (n + labels t) (omega arith) h in
      max-mono _ _ _ _
      (operands-more _ (out ++ (live t ++ live u)) (a ∷ b ∷ []) (joined out (live t) (live u) (lowered-wants funs own t n k hs phi out returns h e1) (lowered-wants funs own u (n + labels t) k hs phi out returns h2 e2)).has)
      (max-mono _ _ _ _ (lowered-wide t n k hs phi out returns h e1) (lowered-wide u (n + labels t) k hs phi out returns h2 e2))
  lowered-wide (Bind' xs q t r u) n k hs phi out returns h e =
      let m = n + 1 + labels t in
      let rest = lowered-wants funs own u m k hs (over phi n []) out returns (in_body [] m (omega arith) h) e in
      let vs = without (wants (over phi n []) (lowered funs own u m k hs)) xs.items ++ [] in
      let held = without (live u) xs.items in
      let here = label-wants funs own phi out xs.items n u k hs m rest in
      fix-at _ _ _ _ _ _ (entry-more vs (out ++ held) (length xs.items) here.has) (lowered-wide u m k hs (over phi n vs) out returns (in_body vs m (omega arith) h) e)
      (lowered-wide t (n + 1) (Some n) hs (over phi n vs) (out ++ held) returns (in_bind vs held here h) (returns-label (hands_on funs own t) n returns))
  lowered-wide (Call f bs) n k hs phi out returns h e = calls-wide funs w own phi n k hs out returns (is_earlier own (slice_get funs f)) f bs.items h e
  lowered-wide (Raise x bs) n k hs phi out returns h e = raise-wide funs w own phi (handler_of x hs) x bs.items out (taken_within phi n x out hs h.handlers)
  lowered-wide (Try' q t x xs r u) n k hs phi out returns h e =
      let e1 = returns-first (hands_on funs own t) (hands_on funs own u) k returns e in
      let e2 = returns-second (hands_on funs own t) (hands_on funs own u) k returns e in
      let m = n + 1 + labels t in
      let rest = lowered-wants funs own u m k hs (over phi n []) out returns (in_body [] m (omega arith) h) e2 in
      let vs = without (wants (over phi n []) (lowered funs own u m k hs)) xs.items ++ [] in
      let held = without (live u) xs.items in
      let here = label-wants funs own phi out xs.items n u k hs m rest in
      fix-at _ _ _ _ _ _ (entry-more vs (out ++ held) (length xs.items) here.has) (lowered-wide u m k hs (over phi n vs) out returns (in_body vs m (omega arith) h) e2)
      (lowered-wide t (n + 1) k ((x, n) ∷ hs) (over phi n vs) (out ++ held) returns (in_try x vs held here h) e1)
  lowered-wide (Give bs) n k hs phi out returns h e = give-wide funs w own phi k bs.items out h.to
