-- Lowered code is at most as much as the flat code, and a lowered program as the flat one.
use Rattle.std.proofs.Common.{◌≡◌, ℕ, suc, ◌+◌, Bool, true, false, nat_lt, ◌==◌, List, [], ◌∷◌, map, length, Option, Some, None, option_map, slice_get, if◌then◌else◌, refl, sym, subst, ⊎_elim}
use Rattle.std.proofs.lemmas.Bool.{or_cases, false≢true}
use Rattle.std.proofs.lemmas.Option.{slice_get-map}
use Rattle.nv_base.specs.declared.term.Atom.{Atom}
use Rattle.nv_base.specs.Measures.{Bulks, nothing, a_label, a_jump, a_node, both, IsAtMost}
use Rattle.nv_base.proofs.Measures.{most-refl, most-trans, most-both, most-behind, most-if}
use Rattle.flat_ir.specs.declared.flat.Flat.{Flat}
use Rattle.flat_ir.specs.declared.flat.Flat.TheVariants.{Let', Fetch', Store', If', Bind', Call, Raise, Try', Give}
use Rattle.flat_ir.specs.declared.flat.FlatFun.{FlatFun}
use Rattle.flat_ir.specs.Bulk.{return_bulk, call_bulk as flat_call_bulk, code_bulk, function_bulk as flat_function_bulk, sum_bulk as flat_sum_bulk, group_bulk as flat_group_bulk, main_bulk as flat_main_bulk, bulk as flat_bulk}
use Rattle.flat_ir.proofs.Bulks.{groups-are-bulks}
use Rattle.cps_ir.specs.Meaning.{handler_of}
use Rattle.cps_ir.specs.Term.{Handler}
use Rattle.cps_ir.specs.Bulk.{call_bulk, term_bulk, function_bulk, sum_bulk, group_bulk, main_bulk, bulk, AreBulks}
use Rattle.cps_ir.proofs.Bulks.{bounded}
use Rattle.cps_lower.specs.inner.Lowered.{labels, give_term, raise_term, is_earlier, last_call, call_term, lowered, hands_on, lowered_body, lowered_fun, lowered_all}
use Rattle.cps_lower.proofs.BulksSums.{most-extra, fixed, paid-behind, paid-first, paid-second, paid-within, paid-label, paid-call, returned}

module _ (funs : List FlatFun) (w : Bulks) (own : ℕ) where
  -- ---- ends

  raise-bulk : (o : Option ℕ) (e : ℕ) (bs : List Atom) → IsAtMost (term_bulk (lowered_all funs) w own (raise_term o e bs)) a_jump
  raise-bulk (Some l) e bs = most-refl a_jump
  raise-bulk None e bs = most-refl a_jump

  give-bulk : (k : Option ℕ) (bs : List Atom) → IsAtMost (term_bulk (lowered_all funs) w own (give_term k bs)) a_jump
  give-bulk (Some l) bs = most-refl a_jump
  give-bulk None bs = most-refl a_jump

  last-term : (earlier : Bool) (f : ℕ) (bs : List Atom) (hs : List Handler) → term_bulk (lowered_all funs) w own (last_call earlier f bs hs) ≡ both a_jump (call_bulk w own (slice_get (lowered_all funs) f))
  last-term true f bs hs = refl
  last-term false f bs hs = refl

  call-bulk : (earlier : Bool) (f : ℕ) (bs : List Atom) (k : Option ℕ) (hs : List Handler) → term_bulk (lowered_all funs) w own (call_term earlier f bs k hs) ≡ both a_jump (call_bulk w own (slice_get (lowered_all funs) f))
  call-bulk earlier f bs (Some l) hs = refl
  call-bulk earlier f bs None hs = last-term earlier f bs hs

  callee : (last : Bool) (o : Option FlatFun) → IsAtMost (call_bulk w own (option_map (lowered_fun funs) o)) (flat_call_bulk w own last o)
  callee last (Some f) = most-if (nat_lt f.group own) (w f.group) (both (return_bulk last) (w f.group)) (λ e. most-extra (return_bulk last) (w f.group))
  callee last None = most-refl nothing

  called : (earlier last : Bool) (f : ℕ) (bs : List Atom) (k : Option ℕ) (hs : List Handler) → IsAtMost (term_bulk (lowered_all funs) w own (call_term earlier f bs k hs)) (both a_jump (flat_call_bulk w own last (slice_get funs f)))
  called earlier last f bs k hs =
      subst (λ b. IsAtMost b (both a_jump (flat_call_bulk w own last (slice_get funs f)))) (sym (call-bulk earlier f bs k hs))
      (subst (λ o. IsAtMost (both a_jump (call_bulk w own o)) (both a_jump (flat_call_bulk w own last (slice_get funs f)))) (sym (slice_get-map (lowered_fun funs) funs f))
      (most-behind a_jump (call_bulk w own (option_map (lowered_fun funs) (slice_get funs f))) (flat_call_bulk w own last (slice_get funs f)) (callee last (slice_get funs f))))

  callee-pays : (o : Option FlatFun) → is_earlier own o ≡ true → IsAtMost (both (both a_label a_jump) (both a_jump (call_bulk w own (option_map (lowered_fun funs) o)))) (both a_jump (flat_call_bulk w own true o))
  callee-pays (Some f) e = paid-call (nat_lt f.group own) (w f.group) e
  callee-pays None e = absurd (false≢true e)

  call-pays : (earlier : Bool) (f : ℕ) (bs : List Atom) (k : Option ℕ) (hs : List Handler) → is_earlier own (slice_get funs f) ≡ true
      → IsAtMost (both (both a_label a_jump) (term_bulk (lowered_all funs) w own (call_term earlier f bs k hs))) (both a_jump (flat_call_bulk w own true (slice_get funs f)))
  call-pays earlier f bs k hs e =
      subst (λ b. IsAtMost (both (both a_label a_jump) b) (both a_jump (flat_call_bulk w own true (slice_get funs f)))) (sym (call-bulk earlier f bs k hs))
      (subst (λ o. IsAtMost (both (both a_label a_jump) (both a_jump (call_bulk w own o))) (both a_jump (flat_call_bulk w own true (slice_get funs f)))) (sym (slice_get-map (lowered_fun funs) funs f))
      (callee-pays (slice_get funs f) e))

  -- ---- code

  lowered-bulk : (t : Flat) (last : Bool) (n : ℕ) (k : Option ℕ) (hs : List Handler) → IsAtMost (term_bulk (lowered_all funs) w own (lowered funs own t n k hs)) (code_bulk funs w own last t)
  lowered-bulk (Let' x a q t) last n k hs = most-behind (a_node 1 2) _ (code_bulk funs w own last t) (lowered-bulk t last n k hs)
  lowered-bulk (Fetch' m xs a q t) last n k hs = most-behind (a_node (length xs.items) 1) _ (code_bulk funs w own last t) (lowered-bulk t last n k hs)
  lowered-bulk (Store' m a bs q t) last n k hs = most-behind (a_node 0 (1 + length bs.items)) _ (code_bulk funs w own last t) (lowered-bulk t last n k hs)
  lowered-bulk (If' c a b q t r u) last n k hs =
      let t' = code_bulk funs w own last t in
      let u' = code_bulk funs w own last u in
      most-behind (a_node 0 2) _ (both t' u') (most-both _ t' _ u' (lowered-bulk t last n k hs) (lowered-bulk u last (n + labels t) k hs))
  lowered-bulk (Bind' xs q t r u) last n k hs =
      fixed a_label (term_bulk (lowered_all funs) w own (lowered funs own t (n + 1) (Some n) hs)) (term_bulk (lowered_all funs) w own (lowered funs own u (n + 1 + labels t) k hs)) (code_bulk funs w own false t) (code_bulk funs w own last u)
      (lowered-bulk t false (n + 1) (Some n) hs) (lowered-bulk u last (n + 1 + labels t) k hs)
  lowered-bulk (Call f bs) last n k hs = called (is_earlier own (slice_get funs f)) last f bs.items k hs
  lowered-bulk (Raise e bs) last n k hs = raise-bulk (handler_of e hs) e bs.items
  lowered-bulk (Try' q t e xs r u) last n k hs =
      fixed a_label (term_bulk (lowered_all funs) w own (lowered funs own t (n + 1) k ((e, n) ∷ hs))) (term_bulk (lowered_all funs) w own (lowered funs own u (n + 1 + labels t) k hs)) (code_bulk funs w own last t) (code_bulk funs w own last u)
      (lowered-bulk t last (n + 1) k ((e, n) ∷ hs)) (lowered-bulk u last (n + 1 + labels t) k hs)
  lowered-bulk (Give bs) last n k hs = give-bulk k bs.items

  -- the flat code also pays for the label after its last calls, if there are any of an earlier group
  lowered-pays : (t : Flat) (n : ℕ) (k : Option ℕ) (hs : List Handler) → hands_on funs own t ≡ true
      → IsAtMost (both (both a_label a_jump) (term_bulk (lowered_all funs) w own (lowered funs own t n k hs))) (code_bulk funs w own true t)
  lowered-pays (Let' x a q t) n k hs h = paid-behind (both a_label a_jump) (a_node 1 2) (term_bulk (lowered_all funs) w own (lowered funs own t n k hs)) (code_bulk funs w own true t) (lowered-pays t n k hs h)
  lowered-pays (Fetch' m xs a q t) n k hs h =
      paid-behind (both a_label a_jump) (a_node (length xs.items) 1) (term_bulk (lowered_all funs) w own (lowered funs own t n k hs)) (code_bulk funs w own true t) (lowered-pays t n k hs h)
  lowered-pays (Store' m a bs q t) n k hs h =
      paid-behind (both a_label a_jump) (a_node 0 (1 + length bs.items)) (term_bulk (lowered_all funs) w own (lowered funs own t n k hs)) (code_bulk funs w own true t) (lowered-pays t n k hs h)
  lowered-pays (If' c a b q t r u) n k hs h =
      let ret = both a_label a_jump in
      let t1 = term_bulk (lowered_all funs) w own (lowered funs own t n k hs) in
      let u1 = term_bulk (lowered_all funs) w own (lowered funs own u (n + labels t) k hs) in
      let t2 = code_bulk funs w own true t in
      let u2 = code_bulk funs w own true u in
      ⊎_elim (λ (p : hands_on funs own t ≡ true). paid-first ret (a_node 0 2) t1 u1 t2 u2 (lowered-pays t n k hs p) (lowered-bulk u true (n + labels t) k hs))
      (λ (p : hands_on funs own u ≡ true). paid-second ret (a_node 0 2) t1 u1 t2 u2 (lowered-bulk t true n k hs) (lowered-pays u (n + labels t) k hs p)) (or_cases (hands_on funs own t) (hands_on funs own u) h)
  lowered-pays (Bind' xs q t r u) n k hs h =
      paid-label (both a_label a_jump) a_label (term_bulk (lowered_all funs) w own (lowered funs own t (n + 1) (Some n) hs)) (term_bulk (lowered_all funs) w own (lowered funs own u (n + 1 + labels t) k hs)) (code_bulk funs w own false t)
      (code_bulk funs w own true u) (lowered-bulk t false (n + 1) (Some n) hs) (lowered-pays u (n + 1 + labels t) k hs h)
  lowered-pays (Call f bs) n k hs h = call-pays (is_earlier own (slice_get funs f)) f bs.items k hs h
  lowered-pays (Raise e bs) n k hs h = absurd (false≢true h)
  lowered-pays (Try' q t e xs r u) n k hs h =
      let ret = both a_label a_jump in
      let t1 = term_bulk (lowered_all funs) w own (lowered funs own t (n + 1) k ((e, n) ∷ hs)) in
      let u1 = term_bulk (lowered_all funs) w own (lowered funs own u (n + 1 + labels t) k hs) in
      let t2 = code_bulk funs w own true t in
      let u2 = code_bulk funs w own true u in
      ⊎_elim (λ (p : hands_on funs own t ≡ true). paid-within ret a_label t1 u1 t2 u2 (lowered-pays t (n + 1) k ((e, n) ∷ hs) p) (lowered-bulk u true (n + 1 + labels t) k hs))
      (λ (p : hands_on funs own u ≡ true). paid-label ret a_label t1 u1 t2 u2 (lowered-bulk t true (n + 1) k ((e, n) ∷ hs)) (lowered-pays u (n + 1 + labels t) k hs p)) (or_cases (hands_on funs own t) (hands_on funs own u) h)
  lowered-pays (Give bs) n k hs h = absurd (false≢true h)

-- ---- functions and programs

module _ (funs : List FlatFun) (w : Bulks) where
  body-bulk : (f : FlatFun) (b : Bool) → hands_on funs f.group f.body ≡ b → IsAtMost (term_bulk (lowered_all funs) w f.group (lowered_body funs f b)) (code_bulk funs w f.group true f.body)
  body-bulk f true is = returned (term_bulk (lowered_all funs) w f.group (lowered funs f.group f.body 1 None [])) (code_bulk funs w f.group true f.body) (lowered-pays funs w f.group f.body 1 None [] is)
  body-bulk f false is = lowered-bulk funs w f.group f.body true 0 None []

  function-lowered : (f : FlatFun) → IsAtMost (function_bulk (lowered_all funs) w (lowered_fun funs f)) (flat_function_bulk funs w f)
  function-lowered f =
      most-behind a_label (term_bulk (lowered_all funs) w f.group (lowered_body funs f (hands_on funs f.group f.body))) (code_bulk funs w f.group true f.body) (body-bulk f (hands_on funs f.group f.body) refl)

  sum-lowered : (group : ℕ) (fs : List FlatFun) → IsAtMost (sum_bulk (lowered_all funs) w group (map (lowered_fun funs) fs)) (flat_sum_bulk funs w group fs)
  sum-lowered group [] = most-refl nothing
  sum-lowered group (f ∷ fs) =
      most-both (if f.group == group then function_bulk (lowered_all funs) w (lowered_fun funs f) else nothing) (if f.group == group then flat_function_bulk funs w f else nothing)
      (sum_bulk (lowered_all funs) w group (map (lowered_fun funs) fs)) (flat_sum_bulk funs w group fs)
      (most-if (f.group == group) (function_bulk (lowered_all funs) w (lowered_fun funs f)) (flat_function_bulk funs w f) (λ e. function-lowered f)) (sum-lowered group fs)

lowered-bulks : (funs : List FlatFun) → AreBulks (lowered_all funs) (flat_group_bulk funs)
lowered-bulks funs = record {
  by = λ group.
      most-trans (sum_bulk (lowered_all funs) (flat_group_bulk funs) group (lowered_all funs)) (flat_sum_bulk funs (flat_group_bulk funs) group funs) (flat_group_bulk funs group)
      (sum-lowered funs (flat_group_bulk funs) group funs) ((groups-are-bulks funs).by group);
}

main-lowered : (funs : List FlatFun) (o : Option FlatFun) → IsAtMost (main_bulk (lowered_all funs) (option_map (lowered_fun funs) o)) (flat_main_bulk funs o)
main-lowered funs (Some f) =
    most-behind (both a_label a_jump) (group_bulk (lowered_all funs) f.group) (flat_group_bulk funs f.group) (bounded (lowered_all funs) (flat_group_bulk funs) (lowered-bulks funs) (suc f.group) f.group)
main-lowered funs None = most-refl nothing

pub bulk-lowered : (funs : List FlatFun) (main : ℕ) → IsAtMost (bulk (lowered_all funs) main) (flat_bulk funs main)
bulk-lowered funs main = subst (λ o. IsAtMost (main_bulk (lowered_all funs) o) (flat_bulk funs main)) (sym (slice_get-map (lowered_fun funs) funs main)) (main-lowered funs (slice_get funs main))
