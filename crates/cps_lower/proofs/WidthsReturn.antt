-- The label that returns the words of last calls: it wants nothing, and is at most as wide as any of these calls.
use Rattle.std.proofs.Common.{◌≡◌, ℕ, ◌+◌, ◌≤◌, max, Bool, true, false, nat_le, nat_lt, ◌==◌, ◌&&◌, List, [], ◌∷◌, ◌++◌, length, Option, Some, None, slice_get, if◌then◌else◌, refl, sym, ap, subst, ⊎_elim, arith}
use Rattle.std.proofs.lemmas.Bool.{and_parts, or_cases, eqb-true, false≢true}
use Rattle.nv_base.specs.declared.term.Atom.{Atom}
use Rattle.nv_base.specs.Access.{is_known, all_known, is_primitive, can_move, is_address}
use Rattle.nv_base.specs.Sets.{different, without, all_vars}
use Rattle.nv_base.specs.Measures.{operands_wide, entry_wide, Widths}
use Rattle.nv_base.proofs.Sets.{different-below}
use Rattle.cps_ir.proofs.Widths.{rest-at}
use Rattle.flat_ir.specs.declared.flat.Flat.{Flat}
use Rattle.flat_ir.specs.declared.flat.Flat.TheVariants.{Let', Fetch', Store', If', Bind', Call, Raise, Try', Give}
use Rattle.flat_ir.specs.declared.flat.FlatFun.{FlatFun}
use Rattle.flat_ir.specs.Formed.{can_call, may_stand, is_formed}
use Rattle.flat_ir.specs.Wide.{live, call_wide, code_wide}
use Rattle.cps_ir.specs.Term.{Fun}
use Rattle.cps_ir.specs.Wide.{Wants, labels_want, labels_wide}
use Rattle.cps_lower.specs.inner.Lowered.{is_earlier, hands_on, variables, operands, returning}
use Rattle.cps_lower.proofs.WidthsSets.{IsWithin, within-both, within-nil, within-none}
use Rattle.cps_lower.proofs.Returning.{length-operands, length-variables}

-- ---- the label

operands-vars : (xs : List ℕ) → all_vars (operands xs) ≡ xs
operands-vars [] = refl
operands-vars (x ∷ xs) = ap (λ l. x ∷ l) (operands-vars xs)

pub returning-wants : (phi : Wants) (xs : List ℕ) → IsWithin (labels_want phi (returning xs)) []
returning-wants phi xs = within-both (subst (λ l. IsWithin (without l xs) []) (sym (operands-vars xs)) (within-none xs)) (within-nil [])

return-wide : (bs : List Atom) → operands_wide [] bs ≤ length bs + 1
return-wide [] = omega arith
return-wide (b ∷ bs) = omega arith

label-at : (d n r : ℕ) → d ≤ 0 → r ≤ n + 1 → max (max (d + (n + 1)) r) 0 ≤ n + 1
label-at d n r x y = omega arith

pub returning-wide : (funs : List Fun) (w : Widths) (own : ℕ) (phi : Wants) (held : List ℕ) (i m : ℕ) → IsWithin held [] → labels_wide funs w own phi held (returning (variables i m)) ≤ m + 1
returning-wide funs w own phi held i m h =
    let xs = variables i m in
    let many : length xs ≡ m = length-variables i m in
    let words : length (operands xs) ≡ length xs = length-operands xs in
    let ret : operands_wide [] (operands xs) ≤ length (operands xs) + 1 = return-wide (operands xs) in
    let ret' : operands_wide [] (operands xs) ≤ length xs + 1 = subst (λ k. operands_wide [] (operands xs) ≤ k + 1) words ret in
    let all : max (max (different held + (length xs + 1)) (operands_wide [] (operands xs))) 0 ≤ length xs + 1 = label-at (different held) (length xs) (operands_wide [] (operands xs)) (different-below held [] h.has) ret' in
    subst (λ k. max (max (different held + (length xs + 1)) (operands_wide [] (operands xs))) 0 ≤ k + 1) many all

-- ---- any last call of an earlier group counts the words that come back

first-at : (m n r : ℕ) → m ≤ n → m ≤ max n r
first-at m n r le = omega arith

middle-at : (m a b c : ℕ) → m ≤ a → m ≤ max (max a b) c
middle-at m a b c le = omega arith

counted-at : (b : Bool) (held v r : ℕ) → b ≡ true → r ≤ (if b then held + max v r else 0)
counted-at true held v r e = omega arith
counted-at false held v r e = absurd (false≢true e)

module _ (funs : List FlatFun) (w : Widths) (own : ℕ) where
  counted-call : (tail : Bool) (given n held : ℕ) (o : Option FlatFun) → can_call own tail given n o ≡ true → is_earlier own o ≡ true → n + 1 ≤ call_wide w own held o
  counted-call tail given n held (Some f) e earlier =
      let many = (and_parts (length f.params.items == given) ((f.results == n) && may_stand tail own f.group) e).1 in
      let same : f.results ≡ n = eqb-true f.results n (and_parts (f.results == n) (may_stand tail own f.group) many).0 in
      subst (λ m. m + 1 ≤ call_wide w own held (Some f)) same (counted-at (nat_lt f.group own) held (w f.group) (f.results + 1) earlier)
  counted-call tail given n held None e earlier = absurd (false≢true e)

  pub counted : (t : Flat) (tail : Bool) (n : ℕ) (known out : List ℕ) → is_formed funs own tail n known t ≡ true → hands_on funs own t ≡ true → n + 1 ≤ code_wide funs w own out t
  counted (Let' x a q t) tail n known out e h = rest-at _ _ _ (counted t tail n (x ∷ known) out (and_parts (is_primitive known a) _ e).1 h)
  counted (Fetch' m xs a q t) tail n known out e h =
      let rest = is_formed funs own tail n (xs.items ++ known) t in
      let address = is_address m a (length xs.items) in
      let move = can_move m (length xs.items) in
      let p1 = and_parts (is_known known a) (move && (address && rest)) e in
      let p2 = and_parts move (address && rest) p1.1 in
      let p3 = and_parts address rest p2.1 in
      rest-at _ _ _ (counted t tail n (xs.items ++ known) out p3.1 h)
  counted (Store' m a bs q t) tail n known out e h =
      let rest = is_formed funs own tail n known t in
      let address = is_address m a (length bs.items) in
      let move = can_move m (length bs.items) in
      let p1 = and_parts (is_known known a) (all_known known bs.items && (move && (address && rest))) e in
      let p2 = and_parts (all_known known bs.items) (move && (address && rest)) p1.1 in
      let p3 = and_parts move (address && rest) p2.1 in
      let p4 = and_parts address rest p3.1 in
      rest-at _ _ _ (counted t tail n known out p4.1 h)
  counted (If' c a b q t r u) tail n known out e h =
      let arms = is_formed funs own tail n known t && is_formed funs own tail n known u in
      let p1 = and_parts (is_known known a) (is_known known b && arms) e in
      let p2 = and_parts (is_known known b) arms p1.1 in
      let p3 = and_parts (is_formed funs own tail n known t) (is_formed funs own tail n known u) p2.1 in
      rest-at _ _ _
      (⊎_elim (λ (p : hands_on funs own t ≡ true). first-at (n + 1) (code_wide funs w own out t) (code_wide funs w own out u) (counted t tail n known out p3.0 p)) (λ (p : hands_on funs own u ≡ true). rest-at (n + 1) (code_wide funs w own out t) (code_wide funs w own out u) (counted u tail n known out p3.1 p))
      (or_cases (hands_on funs own t) (hands_on funs own u) h))
  counted (Bind' xs q t r u) tail n known out e h =
      rest-at _ _ _ (counted u tail n (xs.items ++ known) out (and_parts (is_formed funs own false (length xs.items) known t) (is_formed funs own tail n (xs.items ++ known) u) e).1 h)
  counted (Call f bs) tail n known out e h = rest-at _ _ _ (counted-call tail (length bs.items) n (different out) (slice_get funs f) (and_parts (all_known known bs.items) _ e).1 h)
  counted (Raise x bs) tail n known out e h = absurd (false≢true h)
  counted (Try' q t x xs r u) tail n known out e h =
      let held = out ++ without (live u) xs.items in
      let p1 = and_parts (is_formed funs own false n known t) (nat_le 1 x && is_formed funs own tail n (xs.items ++ known) u) e in
      let p2 = and_parts (nat_le 1 x) (is_formed funs own tail n (xs.items ++ known) u) p1.1 in
      ⊎_elim (λ (p : hands_on funs own t ≡ true). middle-at (n + 1) (code_wide funs w own held t) (entry_wide held (length xs.items)) (code_wide funs w own out u) (counted t false n known held p1.0 p))
      (λ (p : hands_on funs own u ≡ true). rest-at (n + 1) (max (code_wide funs w own held t) (entry_wide held (length xs.items))) (code_wide funs w own out u) (counted u tail n (xs.items ++ known) out p2.1 p)) (or_cases (hands_on funs own t) (hands_on funs own u) h)
  counted (Give bs) tail n known out e h = absurd (false≢true h)
