-- What is given at a point says what the placement says of it.
use Rattle.std.proofs.Common.{◌≡◌, ℕ, zero, suc, ◌+◌, ◌<◌, ◌≤◌, List, [], ◌∷◌, ◌++◌, length, get_or, Some, refl, sym, ap, ◌∙◌, subst, slice_get, arith}
use Rattle.std.specs.Prelude.{◌/◌, ◌^◌}
use Rattle.std.proofs.lemmas.Option.{none-some}
use Rattle.nv_base.specs.declared.term.Bin.TheVariants.{Sub}
use Rattle.uc_isa.specs.declared.instruction.Instr.{Instr}
use Rattle.uc_isa.specs.declared.instruction.Instr.TheVariants as instr
use Rattle.uc_isa.specs.declared.instruction.Dst.TheVariants as dst
use Rattle.uc_isa.specs.declared.instruction.Cond.TheVariants.{Always}
use Rattle.uc_isa.specs.Registers.{failing}
use Rattle.ssu_ir.specs.Tree.{Step, Lit, Una, Bin, Clone, Read, Write, Jump, Halt, Node, Does, Forks, Ends, node_uses}
use Rattle.place_plan.specs.declared.place.Place.{Place}
use Rattle.place_plan.specs.declared.place.Place.TheVariants.{Slot}
use Rattle.place_plan.specs.declared.place.Serve.{Serve}
use Rattle.place_plan.specs.Plan.{Plan, home, first, serve, pass}
use Rattle.ucode_emit.specs.Moves.{Move}
use Rattle.ucode_emit.specs.declared.emit_context.EmitContext.{EmitContext}
use Rattle.ucode_emit.specs.Pieces.{Item, Plain, Branch, moved, operands, operand_at, words, all_copied, all_copies, single_moves, un_op, source, address_of, shift_of}
use Rattle.ucode_emit.specs.inner.Machine.{IsReadable}
use Rattle.ucode_emit.specs.inner.Layers.{IsAddress}
use Rattle.ucode_emit.specs.inner.DraftItems.{fetches}
use Rattle.ucode_emit.specs.inner.EmitContext.{IsEmitContext, CanAll, CanNode, node_items}
use Rattle.ucode_emit.specs.inner.Given.{at_of, write_moves, each_copied, result_items, CanResult, given_node, CanGiven}
use Rattle.ucode_emit.proofs.Fetching.{operands_served, words_served}

-- ---- operands by number

pub at_some : (ss : List Serve) (i : ℕ) (s : Serve) → i < length ss → ((d : Serve) → s ≡ get_or ss i d) → s.at ≡ at_of ss i
at_some [] i s lt e = absurd (omega (arith, lt))
at_some (r ∷ ss) zero s lt e = ap (λ q. q.at) (e r)
at_some (r ∷ ss) (suc i) s lt e = at_some ss i s (omega (arith, lt)) e

pub at_none : (ss : List Serve) (i : ℕ) → length ss ≤ i → Slot 0 ≡ at_of ss i
at_none [] i le = refl
at_none (r ∷ ss) zero le = absurd (omega (arith, le))
at_none (r ∷ ss) (suc i) le = at_none ss i (omega (arith, le))

-- each of these serves is that of the operands of a point from a number on
abbrev pub AreServes : Plan → ℕ → ℕ → List Serve → Type 0
AreServes p k i ss = (j : ℕ) (s : Serve) → slice_get ss j ≡ Some s → serve p k (i + j) ≡ s

at_served : (p : Plan) (k i : ℕ) (ss : List Serve) (j : ℕ) → AreServes p k i ss → j < length ss → at_of ss j ≡ operand_at p k (i + j)
at_served p k i [] j h lt = absurd (omega (arith, lt))
at_served p k i (s ∷ ss) zero h lt = sym (ap (λ q. q.at) (h 0 s refl))
at_served p k i (s ∷ ss) (suc j) h lt =
    let z : suc i + j ≡ i + suc j = omega arith in
    at_served p k (suc i) ss j (λ m r e. let w : suc i + m ≡ i + suc m = omega arith in ap (serve p k) w ∙ h (suc m) r e) (omega (arith, lt)) ∙ ap (operand_at p k) z

-- ---- functions of several equals

two : {A B D : Type 0} (f : A → B → D) (a c : A) (b d : B) → a ≡ c → b ≡ d → f a b ≡ f c d
two f a c b d e g = ap (λ x. f x b) e ∙ ap (f c) g

-- ---- what is given

served : (p : Plan) (n : ℕ) (emit_context : EmitContext) → IsEmitContext p n emit_context → AreServes p emit_context.point 0 emit_context.serves.now
served p n emit_context h j s e = let z : 0 + j ≡ j = omega arith in ap (serve p emit_context.point) z ∙ h.serves j s e

l_is : (p : Plan) (n : ℕ) (emit_context : EmitContext) → IsEmitContext p n emit_context → emit_context.pass.l ≡ (pass p emit_context.point).l
l_is p n emit_context h = ap (λ q. q.l) h.pass

s_is : (p : Plan) (n : ℕ) (emit_context : EmitContext) → IsEmitContext p n emit_context → emit_context.pass.s ≡ (pass p emit_context.point).s
s_is p n emit_context h = ap (λ q. q.s) h.pass

fetched : (p : Plan) (n : ℕ) (emit_context : EmitContext) → IsEmitContext p n emit_context → fetches emit_context.pass.l emit_context.serves.now ≡ operands p emit_context.point n
fetched p n emit_context h =
    ap (λ l. fetches l emit_context.serves.now) (l_is p n emit_context h) ∙ (sym (operands_served p emit_context.point emit_context.serves.now (served p n emit_context h)) ∙ ap (operands p emit_context.point) h.as_many)

at_is : (p : Plan) (n : ℕ) (emit_context : EmitContext) (i : ℕ) → IsEmitContext p n emit_context → i < n → at_of emit_context.serves.now i ≡ operand_at p emit_context.point i
at_is p n emit_context i h lt =
    let z : 0 + i ≡ i = omega arith in
    at_served p emit_context.point 0 emit_context.serves.now i (served p n emit_context h) (subst (λ m. i < m) (sym h.as_many) lt) ∙ ap (operand_at p emit_context.point) z

pub copies_are : (p : Plan) (k : ℕ) (xs : List ℕ) → each_copied p (pass p k).s xs ≡ all_copies p k xs
copies_are p k [] = refl
copies_are p k (x ∷ xs) = ap (λ l. all_copied (pass p k).s (home p x).defined (home p x).copied ++ l) (copies_are p k xs)

pub copied_here : (p : Plan) (n : ℕ) (emit_context : EmitContext) (xs : List ℕ) → IsEmitContext p n emit_context → each_copied p emit_context.pass.s xs ≡ all_copies p emit_context.point xs
copied_here p n emit_context xs h = ap (λ s. each_copied p s xs) (s_is p n emit_context h) ∙ copies_are p emit_context.point xs

first_alone : (p : Plan) (k : ℕ) (s : Serve) (ss : List Serve) → AreServes p k 0 (s ∷ ss) → AreServes p k 0 (s ∷ [])
first_alone p k s ss h zero r e = h zero r e
first_alone p k s ss h (suc j) r e = absurd (none-some r e)

write_served : (p : Plan) (k n : ℕ) (ss : List Serve) → AreServes p k 0 ss → length ss ≡ suc n → write_moves (pass p k).l ss ≡ operands p k 1 ++ words p k 1 n
write_served p k n [] h e = absurd (omega (arith, e))
write_served p k n (s ∷ ss) h e =
    let m : length ss ≡ n = omega (arith, e) in
    two (λ (a b : List Move). a ++ b) _ (operands p k 1) _ (words p k 1 n) (sym (operands_served p k (s ∷ []) (first_alone p k s ss h)))
    (sym (words_served p k 1 ss (λ j r g. let z : 1 + j ≡ 0 + suc j = omega arith in ap (serve p k) z ∙ h (suc j) r g)) ∙ ap (words p k 1) m)

written : (p : Plan) (n : ℕ) (emit_context : EmitContext) → IsEmitContext p (suc n) emit_context → write_moves emit_context.pass.l emit_context.serves.now ≡ operands p emit_context.point 1 ++ words p emit_context.point 1 n
written p n emit_context h = ap (λ l. write_moves l emit_context.serves.now) (l_is p (suc n) emit_context h) ∙ write_served p emit_context.point n emit_context.serves.now (served p (suc n) emit_context h) h.as_many

-- ---- the piece

given_step_is : (p : Plan) (emit_context : EmitContext) (s : Step) → IsEmitContext p (length (node_uses (Does s))) emit_context → given_node p emit_context (Does s) ≡ node_items p emit_context.point emit_context.to emit_context.singles.now (Does s)
given_step_is p emit_context (Lit x v) h = ap (λ s. result_items p s x (λ d. instr.Immed d (v / 2 ^ shift_of v) (shift_of v))) (s_is p 0 emit_context h)
given_step_is p emit_context (Una x op y) h =
    two (λ (a : List Move) (is : List Item). moved a ++ is) _ (operands p emit_context.point 1) _ _ (fetched p 1 emit_context h)
    (two (λ s (q : Place). result_items p s x (λ d. instr.Un d (un_op op) (source q))) _ (pass p emit_context.point).s _ (operand_at p emit_context.point 0) (s_is p 1 emit_context h) (at_is p 1 emit_context 0 h (omega arith)))
given_step_is p emit_context (Bin x op y z) h =
    let k = emit_context.point in
    two (λ (a : List Move) (is : List Item). moved a ++ is) _ (operands p k 2) _ _ (fetched p 2 emit_context h)
    (two (λ s (f : Place × Place). result_items p s x (λ d. instr.Alu d op (source f.0) (source f.1))) _ (pass p k).s (at_of emit_context.serves.now 0, at_of emit_context.serves.now 1) (operand_at p k 0, operand_at p k 1) (s_is p 2 emit_context h)
    (two (λ (a b : Place). (a, b)) _ (operand_at p k 0) _ (operand_at p k 1) (at_is p 2 emit_context 0 h (omega arith)) (at_is p 2 emit_context 1 h (omega arith))))
given_step_is p emit_context (Clone xs y) h = refl
given_step_is p emit_context (Read m xs y) h =
    let k = emit_context.point in
    two (λ (a : List Move) (is : List Item). moved a ++ is) _ (operands p k 1) _ _ (fetched p 1 emit_context h)
    (two (λ (i : Instr) (a : List Move). Plain i ∷ moved a) _ (instr.Read m (first p k) (length xs) (address_of (operand_at p k 0)) 0) _ (all_copies p k xs)
    (two (λ (f : ℕ) (q : Place). instr.Read m f (length xs) (address_of q) 0) _ (first p k) _ (operand_at p k 0) h.first (at_is p 1 emit_context 0 h (omega arith)))
    (copied_here p 1 emit_context xs h))
given_step_is p emit_context (Write m y xs) h =
    let k = emit_context.point in
    let n = length xs in
    two (λ (a : List Move) (is : List Item). moved a ++ is) _ (operands p k 1 ++ words p k 1 n) _ _ (written p n emit_context h)
    (two (λ (f : ℕ) (q : Place). Plain (instr.Write m f n (address_of q) 0) ∷ []) _ (first p k) _ (operand_at p k 0) h.first (at_is p (suc n) emit_context 0 h (omega arith)))

pub given_is : (p : Plan) (emit_context : EmitContext) (n : Node) → IsEmitContext p (length (node_uses n)) emit_context → given_node p emit_context n ≡ node_items p emit_context.point emit_context.to emit_context.singles.now n
given_is p emit_context (Does s) h = given_step_is p emit_context s h
given_is p emit_context (Forks c x y) h =
    let k = emit_context.point in
    two (λ (a : List Move) (is : List Item). moved a ++ is) _ (operands p k 2) _ _ (fetched p 2 emit_context h)
    (two (λ (a b : Place). Plain (instr.Alu dst.Nowhere Sub (source a) (source b)) ∷ Branch (failing c) emit_context.to ∷ []) _ (operand_at p k 0) _ (operand_at p k 1) (at_is p 2 emit_context 0 h (omega arith)) (at_is p 2 emit_context 1 h (omega arith)))
given_is p emit_context (Ends (Jump l xs)) h = ap (λ r. moved (single_moves r emit_context.singles.now) ++ Branch Always emit_context.to ∷ []) (l_is p (length xs) emit_context h)
given_is p emit_context (Ends (Halt e xs)) h = ap (λ r. moved (single_moves r emit_context.singles.now) ++ Plain (instr.Halt e (length xs)) ∷ []) (l_is p (length xs) emit_context h)

-- ---- what is asked

fetches_can : (p : Plan) (n : ℕ) (emit_context : EmitContext) → IsEmitContext p n emit_context → CanAll (operands p emit_context.point n) → CanAll (fetches emit_context.pass.l emit_context.serves.now)
fetches_can p n emit_context h c = subst CanAll (sym (fetched p n emit_context h)) c

readable_can : (p : Plan) (n : ℕ) (emit_context : EmitContext) (i : ℕ) → IsEmitContext p n emit_context → i < n → IsReadable (operand_at p emit_context.point i) → IsReadable (at_of emit_context.serves.now i)
readable_can p n emit_context i h lt c = subst IsReadable (sym (at_is p n emit_context i h lt)) c

address_can : (p : Plan) (n : ℕ) (emit_context : EmitContext) → IsEmitContext p n emit_context → 0 < n → IsAddress (operand_at p emit_context.point 0) → IsAddress (at_of emit_context.serves.now 0)
address_can p n emit_context h lt c = subst IsAddress (sym (at_is p n emit_context 0 h lt)) c

result_can : (p : Plan) (n : ℕ) (emit_context : EmitContext) (x : ℕ) → IsEmitContext p n emit_context → CanResult p (pass p emit_context.point).s x → CanResult p emit_context.pass.s x
result_can p n emit_context x h c = subst (λ s. CanResult p s x) (sym (s_is p n emit_context h)) c

singles_can : (p : Plan) (n : ℕ) (emit_context : EmitContext) → IsEmitContext p n emit_context → CanAll (single_moves (pass p emit_context.point).l emit_context.singles.now) → CanAll (single_moves emit_context.pass.l emit_context.singles.now)
singles_can p n emit_context h c = subst (λ r. CanAll (single_moves r emit_context.singles.now)) (sym (l_is p n emit_context h)) c

given_step_can : (p : Plan) (emit_context : EmitContext) (s : Step) → IsEmitContext p (length (node_uses (Does s))) emit_context → CanNode p emit_context.point emit_context.singles.now (Does s) → CanGiven p emit_context (Does s)
given_step_can p emit_context (Lit x v) h c = (c.0, result_can p 0 emit_context x h c.1)
given_step_can p emit_context (Una x op y) h c = (fetches_can p 1 emit_context h c.0, readable_can p 1 emit_context 0 h (omega arith) c.1, result_can p 1 emit_context x h c.2)
given_step_can p emit_context (Bin x op y z) h c =
    (fetches_can p 2 emit_context h c.0, readable_can p 2 emit_context 0 h (omega arith) c.1, readable_can p 2 emit_context 1 h (omega arith) c.2, result_can p 2 emit_context x h c.3)
given_step_can p emit_context (Clone xs y) h c = tt
given_step_can p emit_context (Read m xs y) h c =
    (fetches_can p 1 emit_context h c.0, address_can p 1 emit_context h (omega arith) c.1, c.2, subst CanAll (sym (copied_here p 1 emit_context xs h)) c.3)
given_step_can p emit_context (Write m y xs) h c =
    (subst CanAll (sym (written p (length xs) emit_context h)) c.0, address_can p (suc (length xs)) emit_context h (omega arith) c.1, c.2)

pub given_can : (p : Plan) (emit_context : EmitContext) (n : Node) → IsEmitContext p (length (node_uses n)) emit_context → CanNode p emit_context.point emit_context.singles.now n → CanGiven p emit_context n
given_can p emit_context (Does s) h c = given_step_can p emit_context s h c
given_can p emit_context (Forks k x y) h c = (fetches_can p 2 emit_context h c.0, readable_can p 2 emit_context 0 h (omega arith) c.1, readable_can p 2 emit_context 1 h (omega arith) c.2)
given_can p emit_context (Ends (Jump l xs)) h c = singles_can p (length xs) emit_context h c
given_can p emit_context (Ends (Halt e xs)) h c = (singles_can p (length xs) emit_context h c.0, c.1)

-- ---- where labels begin

-- lists that were appended to an empty one
pub appended : {X : Type 0} (new more_ old a b c : List X) → new ≡ more_ ++ b → more_ ≡ old ++ a → old ≡ [] → b ≡ c → new ≡ a ++ c
appended new more_ old a b c e f g h = e ∙ (ap (λ l. l ++ b) (f ∙ ap (λ l. l ++ a) g) ∙ ap (λ l. a ++ l) h)
