-- The copies go on by jumps alone.
use Rattle.std.proofs.Common.{◌≡◌, ℕ, zero, suc, ◌+◌, ◌==◌, Bool, true, false, List, [], ◌∷◌, ◌++◌, length, Option, Some, None, slice_get, if◌then◌else◌, refl}
use Rattle.std.proofs.lemmas.Bool.{and_from}
use Rattle.nv_base.specs.declared.term.Atom.{Atom}
use Rattle.cps_ir.specs.Meaning.{handler_of}
use Rattle.cps_ir.specs.Term.{Handler, Term, Let, Read, Write, If, Fix, Call, Return, Throw, Jump, Halt, Labels, none, label, Fun}
use Rattle.cps_ir.specs.Callless.{only_jumps, labels_only_jump}
use Rattle.cps_inline.specs.inner.Inlined.{Counts, Entering, InlineContext, return_term, moved_atoms, moved_handlers, is_copied, is_one, span, term_count, labels_count, copy_count, copied, copied_labels, copies, entered, entered_call, entering, counts}

pub record Jumps (enter : Entering) : Type 0 where
  pub by : (i : ℕ) (f : Fun) (bs : List Atom) (to : Option ℕ) (hs : List Handler) (n : ℕ) → only_jumps (enter i f bs to hs n) ≡ true

return_term-jump : (o : Option ℕ) (e : ℕ) (bs : List Atom) → only_jumps (return_term o e bs) ≡ true
return_term-jump (Some l) e bs = refl
return_term-jump None e bs = refl

call-jumps : (enter : Entering) → Jumps enter → (i : ℕ) (o : Option Fun) (bs : List Atom) (to : Option ℕ) (hs : List Handler) (n : ℕ) → only_jumps (entered_call enter i o bs to hs n) ≡ true
call-jumps enter h i (Some f) bs to hs n = h.by i f bs to hs n
call-jumps enter h i None bs to hs n = refl

module _ (funs : List Fun) (enter : Entering) (h : Jumps enter) (w : Counts) (p : InlineContext) where
  mutual
    copied-jumps : (b : ℕ) (t : Term) (n : ℕ) → only_jumps (copied funs enter w p b t n) ≡ true
    copied-jumps b (Let x a t) n = copied-jumps b t n
    copied-jumps b (Read m xs a t) n = copied-jumps b t n
    copied-jumps b (Write m a bs t) n = copied-jumps b t n
    copied-jumps b (If c a d t u) n = and_from (only_jumps (copied funs enter w p b t n)) (only_jumps (copied funs enter w p b u (n + term_count funs w t))) (copied-jumps b t n) (copied-jumps b u (n + term_count funs w t))
    copied-jumps b (Fix ls t) n =
        and_from (labels_only_jump (copied_labels funs enter w p b ls (if is_one ls then n + term_count funs w t else n))) (only_jumps (copied funs enter w p b t (if is_one ls then n else n + labels_count funs w ls)))
        (labels-jump b ls (if is_one ls then n + term_count funs w t else n)) (copied-jumps b t (if is_one ls then n else n + labels_count funs w ls))
    copied-jumps b (Call i bs (Some k) hs) n = call-jumps enter h i (slice_get funs i) (moved_atoms b bs) (Some (b + k)) (moved_handlers b hs ++ p.handlers) n
    copied-jumps b (Call i bs None hs) n = refl
    copied-jumps b (Return bs) n = return_term-jump p.to 0 (moved_atoms b bs)
    copied-jumps b (Throw e bs) n = return_term-jump (handler_of e p.handlers) e (moved_atoms b bs)
    copied-jumps b (Jump l bs) n = refl
    copied-jumps b (Halt e bs) n = refl

    labels-jump : (b : ℕ) (ls : Labels) (n : ℕ) → labels_only_jump (copied_labels funs enter w p b ls n) ≡ true
    labels-jump b none n = refl
    labels-jump b (label l xs t ls) n = and_from (only_jumps (copied funs enter w p b t n)) (labels_only_jump (copied_labels funs enter w p b ls (n + term_count funs w t))) (copied-jumps b t n) (labels-jump b ls (n + term_count funs w t))

  either-jumps : (c : Bool) (ls ks : Labels) → labels_only_jump ls ≡ true → labels_only_jump ks ≡ true → labels_only_jump (if c then ls else ks) ≡ true
  either-jumps true ls ks h g = h
  either-jumps false ls ks h g = g

  copies-jump : (f : Fun) (j : ℕ) (gs : List Fun) (n : ℕ) → labels_only_jump (copies funs enter w f p j gs n) ≡ true
  copies-jump f j [] n = refl
  copies-jump f j (g ∷ gs) n =
      either-jumps (is_copied f g) _ (copies funs enter w f p (suc j) gs n)
      (and_from (only_jumps (copied funs enter w p n g.body (n + span g))) (labels_only_jump (copies funs enter w f p (suc j) gs (n + copy_count funs w g))) (copied-jumps n g.body (n + span g)) (copies-jump f (suc j) gs (n + copy_count funs w g)))
      (copies-jump f (suc j) gs n)

pub entered-jumps : (funs : List Fun) (enter : Entering) → Jumps enter → (w : Counts) → Jumps (entered funs enter w)
entered-jumps funs enter h w = record {
  by = λ i f bs to hs n. and_from (labels_only_jump (copies funs enter w f (record { first = n; to = to; handlers = hs }) 0 funs (n + length funs))) true (copies-jump funs enter h w (record { first = n; to = to; handlers = hs }) f 0 funs (n + length funs)) refl;
}

if-jumps : (c : Bool) (t u : Term) → only_jumps t ≡ true → only_jumps u ≡ true → only_jumps (if c then t else u) ≡ true
if-jumps true t u h g = h
if-jumps false t u h g = g

pub entering-jumps : (funs : List Fun) (own : ℕ) → Jumps (entering funs own)
entering-jumps funs zero = record { by = λ i f bs to hs n. refl }
entering-jumps funs (suc own) = record {
  by = λ i f bs to hs n. if-jumps (f.group == own) (entered funs (entering funs own) (counts funs own) i f bs to hs n) (entering funs own i f bs to hs n)
      ((entered-jumps funs (entering funs own) (entering-jumps funs own) (counts funs own)).by i f bs to hs n) ((entering-jumps funs own).by i f bs to hs n);
}
