-- The copies are no more code than each call counts.
use Rattle.std.proofs.Common.{◌≡◌, ℕ, zero, suc, ◌+◌, nat_lt, ◌==◌, Bool, true, false, List, [], ◌∷◌, ◌++◌, length, Option, Some, None, slice_get, if◌then◌else◌, refl, sym, ap, subst, ◌∙◌, arith}
use Rattle.std.proofs.lemmas.Bool.{eqb-true, eq-eqb, and_parts}
use Rattle.std.proofs.lemmas.Bool.Decides.{nat_tests}
use Rattle.nv_base.specs.declared.term.Atom.{Atom}
use Rattle.nv_base.specs.Measures.{Bulk, Bulks, nothing, a_label, a_jump, a_node, both, IsAtMost}
use Rattle.nv_base.proofs.Measures.{most-refl, most-trans, most-both, most-behind}
use Rattle.cps_ir.specs.Bulk.{call_bulk, term_bulk, labels_bulk, function_bulk, sum_bulk, bulks_within, group_bulk, AreBulks}
use Rattle.cps_ir.specs.Meaning.{handler_of}
use Rattle.cps_ir.specs.Term.{Handler, Term, Let, Read, Write, If, Fix, Call, Return, Throw, Jump, Halt, Labels, none, label, Fun}
use Rattle.std.proofs.lemmas.List.{length-map}
use Rattle.cps_inline.specs.inner.Inlined.{Counts, Entering, InlineContext, return_term, moved, moved_atom, moved_atoms, moved_handlers, is_copied, is_one, span, term_count, labels_count, copy_count, copied, copied_labels, copies, entered, entered_call, entering, counts, operands, behind, inlined_main}

-- what a call counts for its callee
abbrev pub callee_bulk : Bulks → ℕ → Fun → Bulk
callee_bulk w own f = if nat_lt f.group own then w f.group else nothing

-- a call makes at most a jump and what it counts; the copies are measured as terms of any program
pub record Bounded (top : List Fun) (v : Bulks) (g : ℕ) (w : Bulks) (own : ℕ) (enter : Entering) : Type 0 where
  pub by : (i : ℕ) (f : Fun) (bs : List Atom) (to : Option ℕ) (hs : List Handler) (n : ℕ) → IsAtMost (term_bulk top v g (enter i f bs to hs n)) (both a_jump (callee_bulk w own f))

most-equal : (a b : Bulk) → a ≡ b → IsAtMost a b
most-equal a b e = subst (IsAtMost a) e (most-refl a)

jump-most : (a : Bulk) → IsAtMost a_jump (both a_jump a)
jump-most a = record { labels = omega arith; jumps = omega arith; nodes = omega arith; defined = omega arith; used = omega arith }

return_term-bulk : (top : List Fun) (v : Bulks) (g : ℕ) (o : Option ℕ) (e : ℕ) (bs : List Atom) → IsAtMost (term_bulk top v g (return_term o e bs)) a_jump
return_term-bulk top v g (Some l) e bs = most-refl a_jump
return_term-bulk top v g None e bs = most-refl a_jump

call-most : (funs top : List Fun) (v : Bulks) (g : ℕ) (w : Bulks) (own : ℕ) (enter : Entering) → Bounded top v g w own enter → (i : ℕ) (o : Option Fun) (bs : List Atom) (to : Option ℕ) (hs : List Handler) (n : ℕ) → IsAtMost (term_bulk top v g (entered_call enter i o bs to hs n)) (both a_jump (call_bulk w own o))
call-most funs top v g w own enter h i (Some f) bs to hs n = h.by i f bs to hs n
call-most funs top v g w own enter h i None bs to hs n = jump-most nothing

module _ (funs top : List Fun) (v : Bulks) (g : ℕ) (w : Bulks) (own : ℕ) (enter : Entering) (h : Bounded top v g w own enter) (c : Counts) (p : InlineContext) where
  mutual
    copied-bulk : (b : ℕ) (t : Term) (n : ℕ) → IsAtMost (term_bulk top v g (copied funs enter c p b t n)) (term_bulk funs w own t)
    copied-bulk b (Let x a t) n = most-behind (a_node 1 2) _ _ (copied-bulk b t n)
    copied-bulk b (Read m xs a t) n = most-both _ _ _ _ (most-equal (a_node (length (moved b xs)) 1) (a_node (length xs) 1) (ap (λ k. a_node k 1) (length-map xs (λ x. b + x)))) (copied-bulk b t n)
    copied-bulk b (Write m a bs t) n = most-both _ _ _ _ (most-equal (a_node 0 (1 + length (moved_atoms b bs))) (a_node 0 (1 + length bs)) (ap (λ k. a_node 0 (1 + k)) (length-map bs (moved_atom b)))) (copied-bulk b t n)
    copied-bulk b (If k a d t u) n = most-behind (a_node 0 2) _ _ (most-both _ _ _ _ (copied-bulk b t n) (copied-bulk b u (n + term_count funs c t)))
    copied-bulk b (Fix ls t) n = most-both _ _ _ _ (labels-most b ls (if is_one ls then n + term_count funs c t else n)) (copied-bulk b t (if is_one ls then n else n + labels_count funs c ls))
    copied-bulk b (Call i bs (Some k) hs) n = call-most funs top v g w own enter h i (slice_get funs i) (moved_atoms b bs) (Some (b + k)) (moved_handlers b hs ++ p.handlers) n
    copied-bulk b (Call i bs None hs) n = jump-most (call_bulk w own (slice_get funs i))
    copied-bulk b (Return bs) n = return_term-bulk top v g p.to 0 (moved_atoms b bs)
    copied-bulk b (Throw e bs) n = return_term-bulk top v g (handler_of e p.handlers) e (moved_atoms b bs)
    copied-bulk b (Jump l bs) n = most-refl a_jump
    copied-bulk b (Halt e bs) n = most-refl a_jump

    labels-most : (b : ℕ) (ls : Labels) (n : ℕ) → IsAtMost (labels_bulk top v g (copied_labels funs enter c p b ls n)) (labels_bulk funs w own ls)
    labels-most b none n = most-refl nothing
    labels-most b (label l xs t ls) n = most-both _ _ _ _ (most-behind a_label _ _ (copied-bulk b t n)) (labels-most b ls (n + term_count funs c t))

  copies-either : (f k : Fun) (t : Bool) → is_copied f k ≡ t → f.group ≡ own → (ls ks : Labels) (r : Bulk) → IsAtMost (labels_bulk top v g ls) (both (both a_label (term_bulk funs w own k.body)) r) → IsAtMost (labels_bulk top v g ks) r
      → IsAtMost (labels_bulk top v g (if t then ls else ks)) (both (if k.group == own then function_bulk funs w k else nothing) r)
  copies-either f k true e own-is ls ks r a z =
      let group-is : k.group ≡ own = eqb-true k.group f.group (and_parts (k.group == f.group) (k.results == f.results) e).0 ∙ own-is in
      let same : k.group == own ≡ true = eq-eqb k.group own group-is in
      subst (λ x. IsAtMost (labels_bulk top v g ls) (both (if x then function_bulk funs w k else nothing) r)) (sym same)
      (subst (λ x. IsAtMost (labels_bulk top v g ls) (both (both a_label (term_bulk funs w x k.body)) r)) (sym group-is) a)
  copies-either f k false e own-is ls ks r a z =
      most-trans (labels_bulk top v g ks) r (both (if k.group == own then function_bulk funs w k else nothing) r) z
      (record { labels = omega arith; jumps = omega arith; nodes = omega arith; defined = omega arith; used = omega arith })

  copies-most : (f : Fun) → f.group ≡ own → (j : ℕ) (gs : List Fun) (n : ℕ) → IsAtMost (labels_bulk top v g (copies funs enter c f p j gs n)) (sum_bulk funs w own gs)
  copies-most f own-is j [] n = most-refl nothing
  copies-most f own-is j (k ∷ gs) n =
      copies-either f k (is_copied f k) refl own-is _ (copies funs enter c f p (suc j) gs n) (sum_bulk funs w own gs)
      (most-both _ _ _ _ (most-behind a_label _ _ (copied-bulk n k.body (n + span k))) (copies-most f own-is (suc j) gs (n + copy_count funs c k)))
      (copies-most f own-is (suc j) gs n)

-- the labels first or the jump first
jump-last : (a b : Bulk) → IsAtMost a b → IsAtMost (both a a_jump) (both a_jump b)
jump-last a b h = let l = h.labels in let j = h.jumps in let n = h.nodes in let d = h.defined in let u = h.used in record { labels = omega arith; jumps = omega arith; nodes = omega arith; defined = omega arith; used = omega arith }

entered-bulk : (funs top : List Fun) (v : Bulks) (g : ℕ) (w : Bulks) → AreBulks funs w → (enter : Entering) (c : Counts) (i : ℕ) (f : Fun) → Bounded top v g w f.group enter → (bs : List Atom) (to : Option ℕ) (hs : List Handler) (n : ℕ)
    → IsAtMost (term_bulk top v g (entered funs enter c i f bs to hs n)) (both a_jump (w f.group))
entered-bulk funs top v g w bounds enter c i f h bs to hs n =
    jump-last (labels_bulk top v g (copies funs enter c f (record { first = n; to = to; handlers = hs }) 0 funs (n + length funs))) (w f.group)
    (most-trans _ (sum_bulk funs w f.group funs) (w f.group) (copies-most funs top v g w f.group enter h c (record { first = n; to = to; handlers = hs }) f refl 0 funs (n + length funs)) (bounds.by f.group))

bounded-if : (top : List Fun) (v : Bulks) (g : ℕ) (r : Bulk) (t : Bool) (x y : Term) → (t ≡ true → IsAtMost (term_bulk top v g x) r) → (t ≡ false → IsAtMost (term_bulk top v g y) r) → IsAtMost (term_bulk top v g (if t then x else y)) r
bounded-if top v g r true x y h k = h refl
bounded-if top v g r false x y h k = k refl

callee-at : (w : Bulks) (own : ℕ) (f : Fun) → f.group ≡ own → callee_bulk w (suc own) f ≡ w f.group
callee-at w own f e = let lt : nat_lt f.group (suc own) ≡ true = grind (arith, nat_tests) in ap (λ x. if x then w f.group else nothing) lt

callee-later : (w : Bulks) (own : ℕ) (f : Fun) → f.group == own ≡ false → callee_bulk w (suc own) f ≡ callee_bulk w own f
callee-later w own f e = let same : nat_lt f.group (suc own) ≡ nat_lt f.group own = grind (arith, nat_tests) in ap (λ x. if x then w f.group else nothing) same

pub entering-bulk : (funs top : List Fun) (v : Bulks) (g : ℕ) (w : Bulks) → AreBulks funs w → (own : ℕ) → Bounded top v g w own (entering funs own)
entering-bulk funs top v g w bounds zero = record { by = λ i f bs to hs n. jump-most (callee_bulk w 0 f) }
entering-bulk funs top v g w bounds (suc own) = record {
  by = λ i f bs to hs n.
      bounded-if top v g (both a_jump (callee_bulk w (suc own) f)) (f.group == own) (entered funs (entering funs own) (counts funs own) i f bs to hs n) (entering funs own i f bs to hs n)
      (λ e. subst (λ x. IsAtMost (term_bulk top v g (entered funs (entering funs own) (counts funs own) i f bs to hs n)) (both a_jump x)) (sym (callee-at w own f (eqb-true f.group own e)))
      (entered-bulk funs top v g w bounds (entering funs own) (counts funs own) i f (subst (λ x. Bounded top v g w x (entering funs own)) (sym (eqb-true f.group own e)) (entering-bulk funs top v g w bounds own)) bs to hs n))
      (λ e. subst (λ x. IsAtMost (term_bulk top v g (entering funs own i f bs to hs n)) (both a_jump x)) (sym (callee-later w own f e)) ((entering-bulk funs top v g w bounds own).by i f bs to hs n));
}

function-last : (a b : Bulk) → IsAtMost a (both a_jump b) → IsAtMost (both (both a_label a) nothing) (both (both a_label a_jump) b)
function-last a b h = let l = h.labels in let j = h.jumps in let n = h.nodes in let d = h.defined in let u = h.used in record { labels = omega arith; jumps = omega arith; nodes = omega arith; defined = omega arith; used = omega arith }

-- the one function makes at most a label, a jump and what main's group counts
pub main-bulk : (funs : List Fun) (w : Bulks) → AreBulks funs w → (main : ℕ) (f : Fun) → IsAtMost (group_bulk (inlined_main funs main f ∷ []) 0) (both (both a_label a_jump) (w f.group))
main-bulk funs w bounds main f =
    let top = inlined_main funs main f ∷ [] in
    function-last (term_bulk top (bulks_within top 0) 0 (entered funs (entering funs f.group) (counts funs f.group) main f (operands f.params) None [] (behind f.params))) (w f.group)
    (entered-bulk funs top (bulks_within top 0) 0 w bounds (entering funs f.group) (counts funs f.group) main f (entering-bulk funs top (bulks_within top 0) 0 w bounds f.group) (operands f.params) None [] (behind f.params))
