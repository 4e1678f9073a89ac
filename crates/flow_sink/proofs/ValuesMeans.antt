-- A tree whose values are shared does the same.
use Rattle.std.proofs.Common.{◌≡◌, ℕ, zero, suc, ◌-◌, Bool, true, false, nat_eq, ◌&&◌, refl, sym, ap, subst, ◌∙◌, List, [], ◌∷◌, ◌++◌, map, length, drop, Option, Some, None, slice_get, if◌then◌else◌, All}
use Rattle.std.specs.List.{list_all}
use Rattle.std.proofs.lemmas.Bool.{and_parts, or_parts, eq-eqb}
use Rattle.std.proofs.lemmas.List.Elements.{All-nil, All-push, All-drop, All-weaker}
use Rattle.nv_base.specs.declared.term.Primitive.{Primitive}
use Rattle.nv_base.specs.Meanings.{AreEqual}
use Rattle.nv_base.specs.Sets.{is_in, Within}
use Rattle.nv_base.specs.Words.{Env, assigned, assigned_all, atom_word, atom_words, prim_word, prim_vars, compares}
use Rattle.nv_base.specs.World.{World, begun, read_words, write_words}
use Rattle.nv_base.proofs.Operands.{prim-same}
use Rattle.flow_ir.specs.Formed.{is_label, is_flow, is_entry}
use Rattle.flow_ir.specs.Meaning.{Next, does, blank, enter, run, flow_meaning, flow_params}
use Rattle.flow_ir.specs.Tree.{Tree, Let, Read, Write, If, Jump, Halt, Label}
use Rattle.flow_ir.specs.inner.Scoped.{Fits}
use Rattle.flow_ir.proofs.Members.{in-first, in-rest, in-right, in-or-out, in-not-out}
use Rattle.flow_ir.proofs.Scopes.{label_fits, not_same}
use Rattle.flow_sink.specs.inner.Above.{Entry, first, chosen, answer, shared, label_shared}
use Rattle.flow_sink.specs.Values.{near}
use Rattle.flow_sink.proofs.Prims.{found}

-- a variable has the word of a primitive, and all of it is known
pub record Holds (known : List ℕ) (env : Env) (e : Entry) : Type 0 where
  pub uses : Within (prim_vars e.0) known
  pub variable : is_in e.1 known ≡ true
  pub word : env e.1 ≡ prim_word env e.0

assigned_other : (env : Env) (x v y : ℕ) → nat_eq y x ≡ false → assigned env x v y ≡ env y
assigned_other env x v y e = ap (λ b. if b then v else env y) e

outside : (env : Env) (xs ws : List ℕ) (y : ℕ) → is_in y xs ≡ false → assigned_all env xs ws y ≡ env y
outside env [] ws y e = refl
outside env (x ∷ xs) [] y e = let parts = or_parts (nat_eq y x) (is_in y xs) e in outside (assigned env x 0) xs [] y parts.1 ∙ assigned_other env x 0 y parts.0
outside env (x ∷ xs) (w ∷ ws) y e = let parts = or_parts (nat_eq y x) (is_in y xs) e in outside (assigned env x w) xs ws y parts.1 ∙ assigned_other env x w y parts.0

-- it still does where other variables get words
holds_on : {known more : List ℕ} {env : Env} (new : Env) (e : Entry) → ((y : ℕ) → is_in y known ≡ true → new y ≡ env y) → Within known more → Holds known env e → Holds more new e
holds_on {env = env} new e same within h = record {
  uses = λ y i. within y (h.uses y i);
  variable = within e.1 h.variable;
  word = same e.1 h.variable ∙ h.word ∙ sym (prim-same new env e.0 (λ y i. same y (h.uses y i)));
}

pub holds_let : {known : List ℕ} {env : Env} (x v : ℕ) → is_in x known ≡ false → (above : List Entry) → All (Holds known env) above → All (Holds (x ∷ known) (assigned env x v)) above
holds_let {known} {env} x v fresh above h =
    All-weaker (Holds known env) (Holds (x ∷ known) (assigned env x v)) (λ e. holds_on (assigned env x v) e (λ y i. assigned_other env x v y (not_same x y known fresh i)) (λ y i. in-rest y x known i)) above h

pub holds_read : {known : List ℕ} {env : Env} (xs ws : List ℕ) → ((y : ℕ) → is_in y xs ≡ true → is_in y known ≡ false) → (above : List Entry) → All (Holds known env) above → All (Holds (xs ++ known) (assigned_all env xs ws)) above
holds_read {known} {env} xs ws apart above h =
    All-weaker (Holds known env) (Holds (xs ++ known) (assigned_all env xs ws))
    (λ e. holds_on (assigned_all env xs ws) e (λ y i. outside env xs ws y (in-or-out y xs (λ p. in-not-out y known i (apart y p)) (λ p. p))) (λ y i. in-right y xs known i)) above h

holds_new : (known : List ℕ) (env : Env) (x : ℕ) (p : Primitive) → Within (prim_vars p) known → is_in x known ≡ false → Holds (x ∷ known) (assigned env x (prim_word env p)) (p, x)
holds_new known env x p uses fresh = record {
  uses = λ y i. in-rest y x known (uses y i);
  variable = in-first x known;
  word =
      ap (λ b. if b then prim_word env p else env x) (eq-eqb x x refl)
      ∙ sym (prim-same (assigned env x (prim_word env p)) env p (λ y i. assigned_other env x (prim_word env p) y (not_same x y known fresh (uses y i))));
}

pub answer_word : (known : List ℕ) (env : Env) (above : List Entry) (p : Primitive) → All (Holds known env) above → prim_word env (answer above p) ≡ prim_word env p
answer_word known env above p h = at (first (near above) p) refl
  where
    at : (o : Option ℕ) → first (near above) p ≡ o → prim_word env (chosen o p) ≡ prim_word env p
    at (Some y) e =
        let f = found (Holds known env) (near above) p y e (All-drop (Holds known env) (length above - 256) above h) in
        ap env (sym f.variable) ∙ f.holds.word ∙ ap (prim_word env) f.prim
    at None e = refl

module _ (f g : Next) (jumps : (l : ℕ) (ws : List ℕ) (w : World) → g l ws w ≡ f l ws w) where
  pub means : (t : Tree) (above : List Entry) (known : List ℕ) (env : Env) (w : World) → Fits known t → All (Holds known env) above → does g (shared above t) env w ≡ does f t env w
  means (Let x p t) above known env w fits h =
      ap (λ v. does g (shared (above ++ (p, x) ∷ []) t) (assigned env x v) w) (answer_word known env above p h)
      ∙ means t (above ++ (p, x) ∷ []) (x ∷ known) (assigned env x (prim_word env p)) w fits.3
      (All-push (Holds (x ∷ known) (assigned env x (prim_word env p))) above (p, x) (holds_let x (prim_word env p) fits.2 above h) (holds_new known env x p fits.0 fits.2))
  means (Read m xs a t) above known env w fits h =
      ap (read_words m (atom_word env a) (length xs) w) (λ i. λ ws. means t above (xs ++ known) (assigned_all env xs ws) w fits.2 (holds_read xs ws fits.1 above h) i)
  means (Write m a bs t) above known env w fits h =
      ap (write_words m (atom_word env a) (atom_words env bs) w) (λ i. λ v. means t above known env v fits.1 h i)
  means (If c a b t u) above known env w fits h =
      ap (λ r. if compares c (atom_word env a) (atom_word env b) then r else does g (shared above u) env w) (means t above known env w fits.1 h)
      ∙ ap (λ r. if compares c (atom_word env a) (atom_word env b) then does f t env w else r) (means u above known env w fits.2 h)
  means (Jump l bs) above known env w fits h = jumps l (atom_words env bs) w
  means (Halt e bs) above known env w fits h = refl

  enter_means : (labels ls : List Label) → list_all (is_label labels) ls ≡ true → (i : ℕ) (ws : List ℕ) (w : World) → enter g (slice_get (map label_shared ls) i) ws w ≡ enter f (slice_get ls i) ws w
  enter_means labels [] e i ws w = refl
  enter_means labels (l ∷ ls) e zero ws w =
      means l.body [] l.params (assigned_all blank l.params ws) w (label_fits labels l (and_parts (is_label labels l) (list_all (is_label labels) ls) e).0) (All-nil (Holds l.params (assigned_all blank l.params ws)))
  enter_means labels (l ∷ ls) e (suc i) ws w = enter_means labels ls (and_parts (is_label labels l) (list_all (is_label labels) ls) e).1 i ws w

run_means : (ls : List Label) → list_all (is_label ls) ls ≡ true → (n l : ℕ) (ws : List ℕ) (w : World) → run (map label_shared ls) n l ws w ≡ run ls n l ws w
run_means ls e zero l ws w = refl
run_means ls e (suc n) l ws w = enter_means (run ls n) (run (map label_shared ls) n) (run_means ls e n) ls ls e l ws w

pub flow_means : (ls : List Label) → is_flow ls ≡ true → AreEqual (flow_params ls) (flow_meaning ls) (flow_meaning (map label_shared ls))
flow_means ls e =
    λ args p arguments sizes n.
    let formed = (and_parts (list_all (is_label ls) ls) (is_entry (slice_get ls 0)) e).0 in
    sym (enter_means (run ls n) (run (map label_shared ls) n) (run_means ls formed n) ls ls formed 0 args (begun p))
