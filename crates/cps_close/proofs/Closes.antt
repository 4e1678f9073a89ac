-- The closed labels are well formed.
use Rattle.std.proofs.Common.{◌≡◌, ℕ, zero, suc, ◌+◌, Bool, true, false, not, nat_eq, nat_le, ◌&&◌, List, [], ◌∷◌, ◌++◌, Option, Some, refl, sym, ap, subst, ◌∙◌, if◌then◌else◌, length, length-append, slice_get}
use Rattle.std.specs.List.{list_all}
use Rattle.std.proofs.lemmas.Bool.{and_parts, and_from, eq-eqb, eqb-true, not-true, not_from_false, false≢true, false_from_ne_true}
use Rattle.nv_base.specs.declared.term.Atom.{Atom}
use Rattle.nv_base.specs.declared.term.Primitive.{Primitive}
use Rattle.nv_base.specs.declared.term.Primitive.TheVariants.{Same, Una as UnaOf, Bin as BinOf}
use Rattle.std.proofs.lemmas.Option.{none-some, same_Some}
use Rattle.nv_base.specs.Words.{atom_vars, prim_vars}
use Rattle.nv_base.specs.Sets.{is_in, without, all_different, all_vars, Within}
use Rattle.nv_base.specs.Access.{is_known, all_known, has_count, is_primitive, can_move, is_address}
use Rattle.nv_base.proofs.Sets.{same-number}
use Rattle.cps_ir.specs.Term.{Term, Let, Read, Write, If, Fix, Call, Return, Throw, Jump, Halt, Labels, none, label, Fun}
use Rattle.cps_ir.specs.View.{Seen}
use Rattle.cps_ir.specs.Formed.{Scoped, scoped, arity, takes, takes_as_many, is_formed, is_function, defined, labels_defined, made}
use Rattle.cps_ir.specs.Wide.{Wants, with_wants, labels_want, inside, nowhere}
use Rattle.flow_ir.specs.Tree as flow
use Rattle.flow_ir.specs.Formed as flow_formed
use Rattle.flow_ir.specs.Wide.{live}
use Rattle.cps_ir.specs.Callless.{only_jumps}
use Rattle.cps_close.specs.inner.Closed.{Table, labels_in, labels_of_all, needed, number, operands, tree_of, with_wanted, closed, closed_labels, defines, IsTable}
use Rattle.flow_ir.proofs.Members.{either, in-left, in-right, out-both, in-or-out, stays, apart-turned, different-parts, different-join}
use Rattle.flow_ir.proofs.Renaming.{atom_known, atoms_known}
use Rattle.cps_close.proofs.Places.{Setting, Place, Places, let-place, read-place, write-place, first-place, second-place, rest-place, label-places, body-place, other-places, label-here}
use Rattle.cps_close.proofs.Settles.{Settled, AllSettled, all-ready, jump-takes, live-known, defines-defined}
use Rattle.cps_close.proofs.Tables.{closed-at, closed-from}
use Rattle.cps_close.proofs.Reached.{setting, place-of, kept-reached, all-settled, labels-differ, needed-of}

-- ---- operands whose variables are known

prim-live : (before known : List ℕ) (p : Primitive) → is_primitive before p ≡ true → Within (prim_vars p) known → is_primitive known p ≡ true
prim-live before known (Same a) e h = atom_known known a h
prim-live before known (UnaOf op a) e h = and_from (has_count op) (is_known known a) (and_parts (has_count op) (is_known before a) e).0 (atom_known known a h)
prim-live before known (BinOf op a b) e h =
    and_from (is_known known a) (is_known known b) (atom_known known a (λ x i. h x (in-left x (atom_vars a) (atom_vars b) i))) (atom_known known b (λ x i. h x (in-right x (atom_vars a) (atom_vars b) i)))

behind-known : (gone a known : List ℕ) → Within (without a gone) known → Within a (gone ++ known)
behind-known gone a known h = λ x e. in-or-out x gone (λ i. in-left x gone known i) (λ o. in-right x gone known (h x (stays x a gone e o)))

pub length-operands : (xs : List ℕ) → length (operands xs) ≡ length xs
length-operands [] = refl
length-operands (x ∷ xs) = ap suc (length-operands xs)

-- ---- labels in scope

-- a label of the flow that takes N words, and those that it wants
pub record Target (labels : List flow.Label) (tab : Table) (l k : ℕ) : Type 0 where
  pub there : flow.Label
  pub found : slice_get labels (number tab l) ≡ Some there
  pub many : length there.params ≡ k + length (needed tab l)
  pub counted : nat_le 1 (number tab l) ≡ true

abbrev pub Targets : List flow.Label → Table → Scoped → Type 0
Targets labels tab ss = (l k : ℕ) → takes ss l k ≡ true → Target labels tab l k

settled-target : (labels : List flow.Label) (tab : Table) (l k : ℕ) (xs : List ℕ) (t : Term) → Settled labels tab (record { label = l; params = xs; body = t }) → length xs ≡ k → Target labels tab l k
settled-target labels tab l k xs t s n = record {
  there = with_wanted tab (record { label = l; params = xs; body = t }) (needed tab l);
  found = s.found;
  many = length-append xs (needed tab l) ∙ ap (λ m. m + length (needed tab l)) n;
  counted = s.counted;
}

target-at : (labels : List flow.Label) (tab : Table) (b : Bool) (l m k : ℕ) (xs : List ℕ) (t : Term) (o : Option ℕ) → nat_eq m l ≡ b → Settled labels tab (record { label = m; params = xs; body = t }) → (takes_as_many k o ≡ true → Target labels tab l k)
    → takes_as_many k (if b then Some (length xs) else o) ≡ true → Target labels tab l k
target-at labels tab true l m k xs t o same s h e = subst (λ z. Target labels tab z k) (same-number m l same) (settled-target labels tab m k xs t s (eqb-true (length xs) k e))
target-at labels tab false l m k xs t o same s h e = h e

targets-fix : (labels : List flow.Label) (s : Setting) → AllSettled labels s → (ls : Labels) (ss all : Scoped) (phi alone : Wants) (held known : List ℕ) → Places s all phi alone held known ls → Targets labels s.tab ss → Targets labels s.tab (scoped ls ++ ss)
targets-fix labels s h none ss all phi alone held known p g l k e = g l k e
targets-fix labels s h (label m xs t ls) ss all phi alone held known p g l k e =
    let there = label-here s all phi alone held known m xs t ls p in
    target-at labels s.tab (nat_eq m l) l m k xs t (arity l (scoped ls ++ ss)) refl (h (record { label = m; params = xs; body = t }) there.0 there.1)
    (targets-fix labels s h ls ss all phi alone held known (other-places s all phi alone held known m xs t ls p) g l k) e

-- ---- trees

jump-many : (labels : List flow.Label) (tab : Table) (l : ℕ) (bs : List Atom) → Target labels tab l (length bs) → flow_formed.takes_as_many (length (bs ++ operands (needed tab l))) (slice_get labels (number tab l)) ≡ true
jump-many labels tab l bs t =
    let n : length t.there.params ≡ length (bs ++ operands (needed tab l)) = t.many ∙ sym (length-append bs (operands (needed tab l)) ∙ ap (λ m. length bs + m) (length-operands (needed tab l))) in
    ap (flow_formed.takes_as_many (length (bs ++ operands (needed tab l)))) t.found ∙ eq-eqb (length t.there.params) (length (bs ++ operands (needed tab l))) n

pub tree-formed : (labels : List flow.Label) (s : Setting) → AllSettled labels s → (t : Term) (ss : Scoped) (phi : Wants) (known : List ℕ) → Place s ss phi known t → Targets labels s.tab ss → (now : List ℕ) → Within (live (tree_of s.tab t)) now
    → flow_formed.is_formed labels now (tree_of s.tab t) ≡ true
tree-formed labels s h (Let x a t) ss phi known p g now w =
    let tree = tree_of s.tab t in
    let parts = and_parts (is_primitive known a) (is_formed s.funs s.own s.results ss (x ∷ known) t) p.formed in
    and_from (is_primitive now a) (flow_formed.is_formed labels (x ∷ now) tree) (prim-live known now a parts.0 (λ y e. w y (in-left y (prim_vars a) (without (live (tree_of s.tab t)) (x ∷ [])) e)))
    (tree-formed labels s h t ss phi (x ∷ known) (let-place s ss phi known x a t p) g (x ∷ now) (behind-known (x ∷ []) (live (tree_of s.tab t)) now (λ y e. w y (in-right y (prim_vars a) (without (live (tree_of s.tab t)) (x ∷ [])) e))))
tree-formed labels s h (Read m xs a t) ss phi known p g now w =
    let parts = and_parts (is_known known a) (can_move m (length xs) && (is_address m a (length xs) && is_formed s.funs s.own s.results ss (xs ++ known) t)) p.formed in
    let rest = and_parts (can_move m (length xs)) (is_address m a (length xs) && is_formed s.funs s.own s.results ss (xs ++ known) t) parts.1 in
    let last = and_parts (is_address m a (length xs)) (is_formed s.funs s.own s.results ss (xs ++ known) t) rest.1 in
    let done = flow_formed.is_formed labels (xs ++ now) (tree_of s.tab t) in
    and_from (is_known now a) (can_move m (length xs) && (is_address m a (length xs) && flow_formed.is_formed labels (xs ++ now) (tree_of s.tab t))) (atom_known now a (λ y e. w y (in-left y (atom_vars a) (without (live (tree_of s.tab t)) xs) e)))
    (and_from (can_move m (length xs)) (is_address m a (length xs) && flow_formed.is_formed labels (xs ++ now) (tree_of s.tab t)) rest.0
    (and_from (is_address m a (length xs)) (flow_formed.is_formed labels (xs ++ now) (tree_of s.tab t)) last.0
    (tree-formed labels s h t ss phi (xs ++ known) (read-place s ss phi known m xs a t p) g (xs ++ now) (behind-known xs (live (tree_of s.tab t)) now (λ y e. w y (in-right y (atom_vars a) (without (live (tree_of s.tab t)) xs) e))))))
tree-formed labels s h (Write m a bs t) ss phi known p g now w =
    let parts = and_parts (is_known known a) (all_known known bs && (can_move m (length bs) && (is_address m a (length bs) && is_formed s.funs s.own s.results ss known t))) p.formed in
    let rest = and_parts (all_known known bs) (can_move m (length bs) && (is_address m a (length bs) && is_formed s.funs s.own s.results ss known t)) parts.1 in
    let extra = and_parts (can_move m (length bs)) (is_address m a (length bs) && is_formed s.funs s.own s.results ss known t) rest.1 in
    let last = and_parts (is_address m a (length bs)) (is_formed s.funs s.own s.results ss known t) extra.1 in
    let here : Within (atom_vars a ++ all_vars bs) now = λ y e. w y (in-left y (all_vars (a ∷ bs)) (live (tree_of s.tab t)) e) in
    and_from (is_known now a) (all_known now bs && (can_move m (length bs) && (is_address m a (length bs) && flow_formed.is_formed labels now (tree_of s.tab t)))) (atom_known now a (λ y e. here y (in-left y (atom_vars a) (all_vars bs) e)))
    (and_from (all_known now bs) (can_move m (length bs) && (is_address m a (length bs) && flow_formed.is_formed labels now (tree_of s.tab t))) (atoms_known now bs (λ y e. here y (in-right y (atom_vars a) (all_vars bs) e)))
    (and_from (can_move m (length bs)) (is_address m a (length bs) && flow_formed.is_formed labels now (tree_of s.tab t)) extra.0
    (and_from (is_address m a (length bs)) (flow_formed.is_formed labels now (tree_of s.tab t)) last.0
    (tree-formed labels s h t ss phi known (write-place s ss phi known m a bs t p) g now (λ y e. w y (in-right y (all_vars (a ∷ bs)) (live (tree_of s.tab t)) e))))))
tree-formed labels s h (If c a b t u) ss phi known p g now w =
    let here : Within (atom_vars a ++ (atom_vars b ++ [])) now = λ y e. w y (in-left y (all_vars (a ∷ b ∷ [])) (live (tree_of s.tab t) ++ live (tree_of s.tab u)) e) in
    let rest : Within (live (tree_of s.tab t) ++ live (tree_of s.tab u)) now = λ y e. w y (in-right y (all_vars (a ∷ b ∷ [])) (live (tree_of s.tab t) ++ live (tree_of s.tab u)) e) in
    and_from (is_known now a) (is_known now b && (flow_formed.is_formed labels now (tree_of s.tab t) && flow_formed.is_formed labels now (tree_of s.tab u)))
    (atom_known now a (λ y e. here y (in-left y (atom_vars a) (atom_vars b ++ []) e)))
    (and_from (is_known now b) (flow_formed.is_formed labels now (tree_of s.tab t) && flow_formed.is_formed labels now (tree_of s.tab u))
    (atom_known now b (λ y e. here y (in-right y (atom_vars a) (atom_vars b ++ []) (in-left y (atom_vars b) [] e))))
    (and_from (flow_formed.is_formed labels now (tree_of s.tab t)) (flow_formed.is_formed labels now (tree_of s.tab u))
    (tree-formed labels s h t ss phi known (first-place s ss phi known c a b t u p) g now (λ y e. rest y (in-left y (live (tree_of s.tab t)) (live (tree_of s.tab u)) e)))
    (tree-formed labels s h u ss phi known (second-place s ss phi known c a b t u p) g now (λ y e. rest y (in-right y (live (tree_of s.tab t)) (live (tree_of s.tab u)) e)))))
tree-formed labels s h (Fix ls t) ss phi known p g now w =
    tree-formed labels s h t (scoped ls ++ ss) (inside phi ls) known (rest-place s ss phi known ls t p)
    (targets-fix labels s h ls ss (scoped ls ++ ss) (inside phi ls) (with_wants phi ls []) (labels_want (with_wants phi ls []) ls) known (label-places s ss phi known ls t p) g) now w
tree-formed labels s h (Call f bs k hs) ss phi known p g now w = absurd (false≢true p.jumps)
tree-formed labels s h (Return bs) ss phi known p g now w = absurd (false≢true p.jumps)
tree-formed labels s h (Throw k bs) ss phi known p g now w = absurd (false≢true p.jumps)
tree-formed labels s h (Jump l bs) ss phi known p g now w =
    let target = g l (length bs) (jump-takes s ss phi known l bs p) in
    and_from (all_known now (bs ++ operands (needed s.tab l))) (nat_le 1 (number s.tab l) && flow_formed.takes_as_many (length (bs ++ operands (needed s.tab l))) (slice_get labels (number s.tab l)))
    (atoms_known now (bs ++ operands (needed s.tab l)) w)
    (and_from (nat_le 1 (number s.tab l)) (flow_formed.takes_as_many (length (bs ++ operands (needed s.tab l))) (slice_get labels (number s.tab l))) target.counted (jump-many labels s.tab l bs target))
tree-formed labels s h (Halt k bs) ss phi known p g now w = and_from (all_known now bs) (nat_le (length bs) 8) (atoms_known now bs w) (and_parts (all_known known bs) (nat_le (length bs) 8) p.formed).1

-- ---- variables of a label

tree-defined : (tab : Table) (t : Term) → flow_formed.defined (tree_of tab t) ≡ defines t
tree-defined tab (Let x a t) = ap (λ l. x ∷ l) (tree-defined tab t)
tree-defined tab (Read m xs a t) = ap (λ l. xs ++ l) (tree-defined tab t)
tree-defined tab (Write m a bs t) = tree-defined tab t
tree-defined tab (If c a b t u) = ap (λ l. l ++ flow_formed.defined (tree_of tab u)) (tree-defined tab t) ∙ ap (λ l. defines t ++ l) (tree-defined tab u)
tree-defined tab (Fix ls t) = tree-defined tab t
tree-defined tab (Call f bs k hs) = refl
tree-defined tab (Return bs) = refl
tree-defined tab (Throw e bs) = refl
tree-defined tab (Jump l bs) = refl
tree-defined tab (Halt e bs) = refl

out-inside : (x : ℕ) (a b : List ℕ) → Within a b → is_in x b ≡ false → is_in x a ≡ false
out-inside x a b h o = false_from_ne_true (is_in x a) (λ i. false≢true (sym o ∙ h x i))

defines-different : (t : Term) → all_different (defined t) ≡ true → all_different (defines t) ≡ true
defines-different (Let x a t) e =
    let parts = and_parts (not (is_in x (defined t))) (all_different (defined t)) e in
    and_from (not (is_in x (defines t))) (all_different (defines t)) (not_from_false (is_in x (defines t)) (out-inside x (defines t) (defined t) (defines-defined t) (not-true (is_in x (defined t)) parts.0))) (defines-different t parts.1)
defines-different (Read m xs a t) e =
    let parts = different-parts xs (defined t) e in
    different-join xs (defines t) parts.0 (defines-different t parts.1) (λ y i. out-inside y (defines t) (defined t) (defines-defined t) (parts.2 y i))
defines-different (Write m a bs t) e = defines-different t e
defines-different (If c a b t u) e =
    let parts = different-parts (defined t) (defined u) e in
    different-join (defines t) (defines u) (defines-different t parts.0) (defines-different u parts.1) (λ y i. out-inside y (defines u) (defined u) (defines-defined u) (parts.2 y (defines-defined t y i)))
defines-different (Fix ls t) e = defines-different t (different-parts (defined t) (labels_defined ls) e).0
defines-different (Call f bs k hs) e = refl
defines-different (Return bs) e = refl
defines-different (Throw k bs) e = refl
defines-different (Jump l bs) e = refl
defines-different (Halt k bs) e = refl

-- ---- labels

-- what is known of a label of the flow
pub record LabelFormed (labels : List flow.Label) (tab : Table) (c : Seen) : Type 0 where
  pub formed : flow_formed.is_label labels (with_wanted tab c (needed tab c.label)) ≡ true

abbrev pub AllSeen : (Seen → Type 0) → List Seen → Type 0
AllSeen P [] = true ≡ true
AllSeen P (c ∷ cs) = P c × AllSeen P cs

pub seen-join : (P : Seen → Type 0) (a b : List Seen) → AllSeen P a → AllSeen P b → AllSeen P (a ++ b)
seen-join P [] b h g = g
seen-join P (c ∷ a) b h g = (h.0, seen-join P a b h.1 g)

pub seen-at : (P : Seen → Type 0) (cs : List Seen) (i : ℕ) (c : Seen) → AllSeen P cs → slice_get cs i ≡ Some c → P c
seen-at P [] i c h e = absurd (none-some c e)
seen-at P (d ∷ cs) zero c h e = let same : d ≡ c = same_Some d c e in subst P same h.0
seen-at P (d ∷ cs) (suc i) c h e = seen-at P cs i c h.1 e

label-formed : (labels : List flow.Label) (s : Setting) → AllSettled labels s → (l : ℕ) (xs : List ℕ) (t : Term) (ss : Scoped) (phi : Wants) (known : List ℕ) → Place s ss phi (xs ++ known) t → Targets labels s.tab ss → all_different (xs ++ defined t) ≡ true
    → Settled labels s.tab (record { label = l; params = xs; body = t }) → Within (live (tree_of s.tab t)) (xs ++ needed s.tab l) → LabelFormed labels s.tab (record { label = l; params = xs; body = t })
label-formed labels s h l xs t ss phi known p g d settled w =
    let vs = needed s.tab l in
    let parts = different-parts xs (defined t) d in
    let first : all_different (xs ++ needed s.tab l) ≡ true = different-join xs (needed s.tab l) parts.0 settled.single (apart-turned (needed s.tab l) xs (λ y i. (out-both y xs (defines t) (settled.apart y i)).0)) in
    let all : all_different ((xs ++ needed s.tab l) ++ defines t) ≡ true =
    different-join (xs ++ needed s.tab l) (defines t) first (defines-different t parts.1)
    (λ y i. either y xs (needed s.tab l) i (λ q. out-inside y (defines t) (defined t) (defines-defined t) (parts.2 y q)) (λ q. (out-both y xs (defines t) (settled.apart y q)).1)) in
    record {
      formed =
          and_from (flow_formed.is_formed labels (xs ++ needed s.tab l) (tree_of s.tab t)) (all_different ((xs ++ needed s.tab l) ++ flow_formed.defined (tree_of s.tab t)))
          (tree-formed labels s h t ss phi (xs ++ known) p g (xs ++ needed s.tab l) w)
          (ap (λ ds. all_different ((xs ++ needed s.tab l) ++ ds)) (tree-defined s.tab t) ∙ all);
    }

mutual
  labels-formed : (labels : List flow.Label) (s : Setting) → AllSettled labels s → (t : Term) (ss : Scoped) (phi : Wants) (known : List ℕ) → Place s ss phi known t → Targets labels s.tab ss → AllSeen (LabelFormed labels s.tab) (labels_in t)
  labels-formed labels s h (Let x a t) ss phi known p g = labels-formed labels s h t ss phi (x ∷ known) (let-place s ss phi known x a t p) g
  labels-formed labels s h (Read m xs a t) ss phi known p g = labels-formed labels s h t ss phi (xs ++ known) (read-place s ss phi known m xs a t p) g
  labels-formed labels s h (Write m a bs t) ss phi known p g = labels-formed labels s h t ss phi known (write-place s ss phi known m a bs t p) g
  labels-formed labels s h (If c a b t u) ss phi known p g =
      seen-join (LabelFormed labels s.tab) (labels_in t) (labels_in u) (labels-formed labels s h t ss phi known (first-place s ss phi known c a b t u p) g) (labels-formed labels s h u ss phi known (second-place s ss phi known c a b t u p) g)
  labels-formed labels s h (Fix ls t) ss phi known p g =
      let places = label-places s ss phi known ls t p in
      let now = targets-fix labels s h ls ss (scoped ls ++ ss) (inside phi ls) (with_wants phi ls []) (labels_want (with_wants phi ls []) ls) known places g in
      seen-join (LabelFormed labels s.tab) (labels_of_all ls) (labels_in t)
      (all-formed labels s h ls (scoped ls ++ ss) (inside phi ls) (with_wants phi ls []) (labels_want (with_wants phi ls []) ls) known places now)
      (labels-formed labels s h t (scoped ls ++ ss) (inside phi ls) known (rest-place s ss phi known ls t p) now)
  labels-formed labels s h (Call f bs k hs) ss phi known p g = refl
  labels-formed labels s h (Return bs) ss phi known p g = refl
  labels-formed labels s h (Throw k bs) ss phi known p g = refl
  labels-formed labels s h (Jump l bs) ss phi known p g = refl
  labels-formed labels s h (Halt k bs) ss phi known p g = refl

  all-formed : (labels : List flow.Label) (s : Setting) → AllSettled labels s → (ls : Labels) (ss : Scoped) (phi alone : Wants) (held known : List ℕ) → Places s ss phi alone held known ls → Targets labels s.tab ss → AllSeen (LabelFormed labels s.tab) (labels_of_all ls)
  all-formed labels s h none ss phi alone held known p g = refl
  all-formed labels s h (label l xs t ls) ss phi alone held known p g =
      let body = body-place s ss phi alone held known l xs t ls p in
      let there = label-here s ss phi alone held known l xs t ls p in
      let settled = h (record { label = l; params = xs; body = t }) there.0 there.1 in
      let ready = all-ready labels s h (label l xs t ls) ss phi alone held known p in
      seen-join (LabelFormed labels s.tab) (labels_in t) (record { label = l; params = xs; body = t } ∷ labels_of_all ls) (labels-formed labels s h t ss phi (xs ++ known) body g) (
        label-formed labels s h l xs t ss phi known body g (different-parts (xs ++ defined t) (labels_defined ls) p.different).0 settled ready.0.whole,
        all-formed labels s h ls ss phi alone held known (other-places s ss phi alone held known l xs t ls p) g,
      )

-- ---- the flow

list-all-at : (test : flow.Label → Bool) (ls : List flow.Label) → ((i : ℕ) (l : flow.Label) → slice_get ls i ≡ Some l → test l ≡ true) → list_all test ls ≡ true
list-all-at test [] h = refl
list-all-at test (l ∷ ls) h = and_from (test l) (list_all test ls) (h 0 l refl) (list-all-at test ls (λ i m e. h (suc i) m e))

function-different : (funs : List Fun) (f : Fun) → is_function funs f ≡ true → all_different (f.params ++ defined f.body) ≡ true
function-different funs f e =
    let parts = and_parts (is_formed funs f.group f.results [] f.params f.body) (all_different (f.params ++ defined f.body) && all_different (made f.body)) e in
    (and_parts (all_different (f.params ++ defined f.body)) (all_different (made f.body)) parts.1).0

none-targets : (labels : List flow.Label) (tab : Table) → Targets labels tab []
none-targets labels tab l k e = absurd (false≢true e)

entry-formed : (funs : List Fun) (f : Fun) (tab : Table) → is_function funs f ≡ true → only_jumps f.body ≡ true → IsTable (labels_in f.body) tab → flow_formed.is_label (closed tab f) (record { params = f.params; body = tree_of tab f.body }) ≡ true
entry-formed funs f tab e j t =
    let s = setting funs f tab in
    let k = kept-reached funs f tab e j t.reached in
    let p = place-of funs f tab e j k.least in
    let d = function-different funs f e in
    let parts = different-parts f.params (defined f.body) d in
    and_from (flow_formed.is_formed (closed tab f) f.params (tree_of tab f.body)) (all_different (f.params ++ flow_formed.defined (tree_of tab f.body)))
    (tree-formed (closed tab f) (setting funs f tab) (all-settled funs f tab e j t) f.body [] nowhere f.params p (none-targets (closed tab f) tab) f.params (live-known (setting funs f tab) f.body [] nowhere f.params p))
    (ap (λ ds. all_different (f.params ++ ds)) (tree-defined tab f.body)
    ∙ different-join f.params (defines f.body) parts.0 (defines-different f.body parts.1) (λ y i. out-inside y (defines f.body) (defined f.body) (defines-defined f.body) (parts.2 y i)))

pub some-label : (a b : flow.Label) → Some a ≡ Some b → a ≡ b
some-label a b e = same_Some a b e

-- the label of the flow for the label at an index
pub closed-needed : (funs : List Fun) (f : Fun) (tab : Table) → is_function funs f ≡ true → only_jumps f.body ≡ true → IsTable (labels_in f.body) tab → (i : ℕ) (c : Seen) → slice_get (labels_in f.body) i ≡ Some c
    → slice_get (closed_labels tab (labels_in f.body) tab.lists) i ≡ Some (with_wanted tab c (needed tab c.label))
closed-needed funs f tab e j t i c at =
    let k = kept-reached funs f tab e j t.reached in
    closed-at tab (labels_in f.body) tab.lists i c at ∙ ap (λ v. Some (with_wanted tab c v)) (sym (needed-of f tab k.index i c (labels-differ funs f e) at))

label-at : (funs : List Fun) (f : Fun) (tab : Table) → is_function funs f ≡ true → only_jumps f.body ≡ true → IsTable (labels_in f.body) tab → (i : ℕ) (l : flow.Label) → slice_get (closed tab f) i ≡ Some l → flow_formed.is_label (closed tab f) l ≡ true
label-at funs f tab e j t zero l q =
    subst (λ z. flow_formed.is_label (closed tab f) z ≡ true) (some-label (record { params = f.params; body = tree_of tab f.body }) l q) (entry-formed funs f tab e j t)
label-at funs f tab e j t (suc i) l q =
    let s = setting funs f tab in
    let settled = all-settled funs f tab e j t in
    let k = kept-reached funs f tab e j t.reached in
    let all = labels-formed (closed tab f) (setting funs f tab) settled f.body [] nowhere f.params (place-of funs f tab e j k.least) (none-targets (closed tab f) tab) in
    let from = closed-from tab (labels_in f.body) tab.lists i l q in
    let one = seen-at (LabelFormed (closed tab f) tab) (labels_in f.body) i from.0 all from.1 in
    let here = closed-needed funs f tab e j t i from.0 from.1 in
    let same : with_wanted tab from.0 (needed tab from.0.label) ≡ l = some-label (with_wanted tab from.0 (needed tab from.0.label)) l (sym here ∙ q) in
    subst (λ z. flow_formed.is_label (closed tab f) z ≡ true) same one.formed

-- the flow of a function of at most 8 parameters is well formed
pub flow-formed : (funs : List Fun) (f : Fun) (tab : Table) → is_function funs f ≡ true → only_jumps f.body ≡ true → nat_le (length f.params) 8 ≡ true → IsTable (labels_in f.body) tab → flow_formed.is_flow (closed tab f) ≡ true
flow-formed funs f tab e j n t =
    and_from (list_all (flow_formed.is_label (closed tab f)) (closed tab f)) (flow_formed.is_entry (slice_get (closed tab f) 0)) (list-all-at (flow_formed.is_label (closed tab f)) (closed tab f) (label-at funs f tab e j t)) n
