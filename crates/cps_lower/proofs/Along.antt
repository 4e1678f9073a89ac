-- The spine of code, step by step.
use Rattle.std.proofs.Common.{◌≡◌, ℕ, ◌+◌, ◌≤◌, List, [], ◌∷◌, ◌++◌, Option, Some, sym, ap, ◌∙◌, arith}
use Rattle.nv_base.specs.declared.term.Atom.{Atom}
use Rattle.nv_base.specs.declared.term.Cmp.{Cmp}
use Rattle.nv_base.specs.declared.term.Mem.{Mem}
use Rattle.nv_base.specs.declared.term.Primitive.{Primitive}
use Rattle.flat_ir.specs.declared.flat.Flat.{Flat, size-Flat}
use Rattle.flat_ir.specs.declared.flat.Flat.TheVariants.{Let', Fetch', Store', If', Bind', Try'}
use Rattle.flat_ir.specs.declared.flat.Flat.TheViews.{deep-Let', deep-Fetch', deep-Store', deep-If', deep-Bind', deep-Try'}
use Rattle.flat_ir.specs.declared.flat.FlatFun.{FlatFun}
use Rattle.cps_ir.specs.declared.term.Term.{Term as CpsTerm}
use Rattle.cps_ir.specs.declared.spine.Step.{Step}
use Rattle.cps_ir.specs.declared.spine.Step.TheVariants as step
use Rattle.cps_ir.specs.Term.{Handler, Let, Read, Write, If, Fix}
use Rattle.cps_ir.specs.View.{term_view}
use Rattle.cps_ir.specs.Spine.{put, put_all}
use Rattle.cps_ir.proofs.Steps.{put_last}
use Rattle.cps_lower.specs.inner.Lowered.{lowered, labels, one_label}

-- the steps and the term of cur, with m as the next label, are the old steps and the term of t with n
pub record On (funs : List FlatFun) (own : ℕ) (t : Flat) (n : ℕ) (k : Option ℕ) (hs : List Handler) (old ss : List Step) (cur : Flat) (m : ℕ) : Type 0 where
  pub term : put_all ss (lowered funs own cur m k hs) ≡ put_all old (lowered funs own t n k hs)
  pub count : m + labels cur ≡ n + labels t
  pub size : size-Flat cur ≤ size-Flat t

on_step : {funs : List FlatFun} {own : ℕ} {t cur : Flat} {n m : ℕ} {k : Option ℕ} {hs : List Handler} {old ss : List Step} (s : Step) (ss' : List Step) (rest : Flat) (m' : ℕ) → On funs own t n k hs old ss cur m → ss' ≡ ss ++ s ∷ [] → lowered funs own cur m k hs ≡ put s (lowered funs own rest m' k hs) → m + labels cur ≡ m' + labels rest → size-Flat rest ≤ size-Flat cur → On funs own t n k hs old ss' rest m'
on_step {ss = ss} s ss' rest m' on e term count size = record {
  term = sym (put_last ss' ss s _ _ e term) ∙ on.term;
  count = sym count ∙ on.count;
  size = let le = on.size in omega arith;
}

pub on_let : {funs : List FlatFun} {own : ℕ} {t cur : Flat} {n m : ℕ} {k : Option ℕ} {hs : List Handler} {old ss : List Step} (x : ℕ) (a : Primitive) (q : _) (r rest : Flat) (ss' : List Step) → On funs own t n k hs old ss cur m → cur ≡ Let' x a q r → rest ≡ r → ss' ≡ ss ++ step.Let x a ∷ [] → On funs own t n k hs old ss' rest m
on_let {funs = funs} {own = own} {m = m} {k = k} {hs = hs} x a q r rest ss' on is e push =
    on_step (step.Let x a) ss' rest m on push
    (ap (λ v. lowered funs own v m k hs) is ∙ ap (λ v. Let x a (lowered funs own v m k hs)) (sym e))
    (ap (λ v. m + labels v) is ∙ ap (λ v. m + labels v) (sym e))
    (omega (arith, ap size-Flat is, ap size-Flat e, deep-Let' x a q r))

pub on_fetch : {funs : List FlatFun} {own : ℕ} {t cur : Flat} {n m : ℕ} {k : Option ℕ} {hs : List Handler} {old ss : List Step} (o : Mem) (xs : _) (ys : _) (a : Atom) (q : _) (r rest : Flat) (ss' : List Step) → On funs own t n k hs old ss cur m → cur ≡ Fetch' o xs a q r → rest ≡ r → ss' ≡ ss ++ step.Read o ys a ∷ [] → ys.items ≡ xs.items → On funs own t n k hs old ss' rest m
on_fetch {funs = funs} {own = own} {m = m} {k = k} {hs = hs} o xs ys a q r rest ss' on is e push ey =
    on_step (step.Read o ys a) ss' rest m on push
    (ap (λ v. lowered funs own v m k hs) is ∙ ap (λ v. Read o xs.items a (lowered funs own v m k hs)) (sym e) ∙ ap (λ l. Read o l a (lowered funs own rest m k hs)) (sym ey))
    (ap (λ v. m + labels v) is ∙ ap (λ v. m + labels v) (sym e))
    (omega (arith, ap size-Flat is, ap size-Flat e, deep-Fetch' o xs a q r))

pub on_store : {funs : List FlatFun} {own : ℕ} {t cur : Flat} {n m : ℕ} {k : Option ℕ} {hs : List Handler} {old ss : List Step} (o : Mem) (a : Atom) (bs : _) (cs : _) (q : _) (r rest : Flat) (ss' : List Step) → On funs own t n k hs old ss cur m → cur ≡ Store' o a bs q r → rest ≡ r → ss' ≡ ss ++ step.Write o a cs ∷ [] → cs.items ≡ bs.items → On funs own t n k hs old ss' rest m
on_store {funs = funs} {own = own} {m = m} {k = k} {hs = hs} o a bs cs q r rest ss' on is e push ec =
    on_step (step.Write o a cs) ss' rest m on push
    (ap (λ v. lowered funs own v m k hs) is ∙ ap (λ v. Write o a bs.items (lowered funs own v m k hs)) (sym e) ∙ ap (λ l. Write o a l (lowered funs own rest m k hs)) (sym ec))
    (ap (λ v. m + labels v) is ∙ ap (λ v. m + labels v) (sym e))
    (omega (arith, ap size-Flat is, ap size-Flat e, deep-Store' o a bs q r))

pub on_if : {funs : List FlatFun} {own : ℕ} {t cur : Flat} {n m : ℕ} {k : Option ℕ} {hs : List Handler} {old ss : List Step} (c : Cmp) (a b : Atom) (q q' : _) (f r part rest : Flat) (u : CpsTerm) (m' : ℕ) (ss' : List Step) → On funs own t n k hs old ss cur m → cur ≡ If' c a b q f q' r → part ≡ f → rest ≡ r → m' ≡ m + labels part → term_view u ≡ lowered funs own part m k hs → ss' ≡ ss ++ step.If c a b u ∷ [] → On funs own t n k hs old ss' rest m'
on_if {funs = funs} {own = own} {cur = cur} {m = m} {k = k} {hs = hs} c a b q q' f r part rest u m' ss' on is e e' em eu push =
    let whole : lowered funs own cur m k hs ≡ If c a b (lowered funs own f m k hs) (lowered funs own r (m + labels f) k hs) = ap (λ v. lowered funs own v m k hs) is in
    let counted : labels cur ≡ labels f + labels r = ap labels is in
    on_step (step.If c a b u) ss' rest m' on push (cc) (omega (arith, counted, em, ap labels e, ap labels e')) (omega (arith, ap size-Flat is, ap size-Flat e', deep-If' c a b q f q' r))

pub on_bind : {funs : List FlatFun} {own : ℕ} {t cur : Flat} {n m : ℕ} {k : Option ℕ} {hs : List Handler} {old ss : List Step} (xs : _) (ys : _) (q q' : _) (f r part rest : Flat) (u : CpsTerm) (l m1 m' : ℕ) (ss' : List Step) → On funs own t n k hs old ss cur m → cur ≡ Bind' xs q f q' r → part ≡ f → rest ≡ r → ss' ≡ ss ++ step.Label l ys u ∷ [] → ys.items ≡ xs.items → l ≡ m → m1 ≡ m + 1 → m' ≡ m1 + labels part → term_view u ≡ lowered funs own part m1 (Some l) hs → On funs own t n k hs old ss' rest m'
on_bind {funs = funs} {own = own} {cur = cur} {m = m} {k = k} {hs = hs} xs ys q q' f r part rest u l m1 m' ss' on is e e' push ey el e1 em eu =
    let whole : lowered funs own cur m k hs ≡ Fix (one_label m xs.items (lowered funs own r (m + 1 + labels f) k hs)) (lowered funs own f (m + 1) (Some m) hs) = ap (λ v. lowered funs own v m k hs) is in
    let counted : labels cur ≡ 1 + labels f + labels r = ap labels is in
    let next : m + 1 + labels f ≡ m' = omega (arith, e1, em, ap labels e) in
    let first : lowered funs own f (m + 1) (Some m) hs ≡ term_view u =
    ap (λ i. lowered funs own f i (Some m) hs) (sym e1) ∙ ap (λ i. lowered funs own f m1 (Some i) hs) (sym el) ∙ ap (λ v. lowered funs own v m1 (Some l) hs) (sym e) ∙ sym eu in
    let second : lowered funs own r (m + 1 + labels f) k hs ≡ lowered funs own rest m' k hs = ap (λ v. lowered funs own v (m + 1 + labels f) k hs) (sym e') ∙ ap (λ i. lowered funs own rest i k hs) next in
    on_step (step.Label l ys u) ss' rest m' on push
    (whole ∙ ap (λ v. Fix (one_label m xs.items (lowered funs own r (m + 1 + labels f) k hs)) v) first ∙ ap (λ v. Fix (one_label m xs.items v) (term_view u)) second ∙ ap (λ i. Fix (one_label i xs.items (lowered funs own rest m' k hs)) (term_view u)) (sym el) ∙ ap (λ i. Fix (one_label l i (lowered funs own rest m' k hs)) (term_view u)) (sym ey))
    (omega (arith, counted, e1, em, ap labels e, ap labels e')) (omega (arith, ap size-Flat is, ap size-Flat e', deep-Bind' xs q f q' r))

pub on_try : {funs : List FlatFun} {own : ℕ} {t cur : Flat} {n m : ℕ} {k : Option ℕ} {hs : List Handler} {old ss : List Step} (x : ℕ) (xs : _) (ys : _) (q q' : _) (f r part rest : Flat) (inner : List Handler) (u : CpsTerm) (l m1 m' : ℕ) (ss' : List Step) → On funs own t n k hs old ss cur m → cur ≡ Try' q f x xs q' r → part ≡ f → rest ≡ r → ss' ≡ ss ++ step.Label l ys u ∷ [] → ys.items ≡ xs.items → l ≡ m → m1 ≡ m + 1 → inner ≡ (x, l) ∷ hs → m' ≡ m1 + labels part → term_view u ≡ lowered funs own part m1 k inner → On funs own t n k hs old ss' rest m'
on_try {funs = funs} {own = own} {cur = cur} {m = m} {k = k} {hs = hs} x xs ys q q' f r part rest inner u l m1 m' ss' on is e e' push ey el e1 ei em eu =
    let whole : lowered funs own cur m k hs ≡ Fix (one_label m xs.items (lowered funs own r (m + 1 + labels f) k hs)) (lowered funs own f (m + 1) k ((x, m) ∷ hs)) = ap (λ v. lowered funs own v m k hs) is in
    let counted : labels cur ≡ 1 + labels f + labels r = ap labels is in
    let next : m + 1 + labels f ≡ m' = omega (arith, e1, em, ap labels e) in
    let first : lowered funs own f (m + 1) k ((x, m) ∷ hs) ≡ term_view u =
    ap (λ i. lowered funs own f i k ((x, m) ∷ hs)) (sym e1) ∙ ap (λ i. lowered funs own f m1 k ((x, i) ∷ hs)) (sym el) ∙ ap (λ i. lowered funs own f m1 k i) (sym ei) ∙ ap (λ v. lowered funs own v m1 k inner) (sym e) ∙ sym eu in
    let second : lowered funs own r (m + 1 + labels f) k hs ≡ lowered funs own rest m' k hs = ap (λ v. lowered funs own v (m + 1 + labels f) k hs) (sym e') ∙ ap (λ i. lowered funs own rest i k hs) next in
    on_step (step.Label l ys u) ss' rest m' on push
    (whole ∙ ap (λ v. Fix (one_label m xs.items (lowered funs own r (m + 1 + labels f) k hs)) v) first ∙ ap (λ v. Fix (one_label m xs.items v) (term_view u)) second ∙ ap (λ i. Fix (one_label i xs.items (lowered funs own rest m' k hs)) (term_view u)) (sym el) ∙ ap (λ i. Fix (one_label l i (lowered funs own rest m' k hs)) (term_view u)) (sym ey))
    (omega (arith, counted, e1, em, ap labels e, ap labels e')) (omega (arith, ap size-Flat is, ap size-Flat e', deep-Try' q f x xs q' r))
