-- The nodes that are made of a node of a flow.
use Rattle.std.proofs.Common.{◌≡◌, ℕ, ◌+◌, ◌<◌, true, false, nat_eq, nat_lt, List, [], ◌∷◌, ◌++◌, map, refl, sym, ap, subst, ◌∙◌, if◌then◌else◌, drop, slice_index, ◌||◌, ◌⊎◌, inl, inr, ⊎_elim, arith}
use Rattle.std.specs.List.{range_with_len}
use Rattle.std.proofs.lemmas.Bool.{false≢true, or_cases, cases_Bool}
use Rattle.std.proofs.lemmas.List.{append-nil}
use Rattle.nv_base.specs.Sets.{is_in}
use Rattle.nv_base.proofs.Sets.{in-append, same-number}
use Rattle.nv_base.specs.declared.term.Atom.{Atom}
use Rattle.nv_base.specs.declared.term.Atom.TheVariants.{Lit}
use Rattle.nv_base.specs.declared.term.Bin.TheVariants.{Or}
use Rattle.nv_base.specs.declared.term.Primitive.{Primitive}
use Rattle.nv_base.specs.declared.term.Mem.{Mem}
use Rattle.nv_base.specs.declared.term.Cmp.{Cmp}
use Rattle.nv_base.specs.Words.{word}
use Rattle.flow_ir.specs.Tree.{Label}
use Rattle.flow_ir.specs.Formed.{defined}
use Rattle.ssu_ir.specs.declared.build.SsuBuild.{SsuBuild}
use Rattle.ssu_ir.specs.declared.node.SsuLabel.{SsuLabel}
use Rattle.ssu_ir.specs.declared.node.SsuNode.{SsuNode}
use Rattle.ssu_ir.specs.Build.{Rooted, Holds, Grown, nodes_in, ids, trees_of}
use Rattle.ssu_ir.specs.Slots.{bodies, node_of, successors_of}
use Rattle.ssu_ir.specs.Single.{is_narrow}
use Rattle.ssu_ir.specs.View.{with_bodies}
use Rattle.ssu_ir.specs.Tree as ssu
use Rattle.ssu_ir.proofs.Arranged.{brought}
use Rattle.ssu_ir.proofs.Turns.{bodies-append}
use Rattle.ssu_make.specs.declared.tree.Part.{Part}
use Rattle.ssu_make.specs.Uses.{Counts, operands, outside, uses, all_uses}
use Rattle.ssu_make.specs.Made.{names, value, high, low, literal, literals, atom_literal, clone_step, clones, prim_step, made, made_let, made_read, made_write, made_if, made_jump, made_halt, Laid, variables, IsMade, AllMade}
use Rattle.ssu_make.specs.inner.Making.{counted, Becomes, Joined, Adds, MadeTo, LaidOut, LabelMade, LabelsMade}
use Rattle.ssu_make.proofs.Along.{same-everywhere, AllMadeTo, LabelsOn}
use Rattle.ssu_make.proofs.Turns.{becomes-node, joined-node, adds-node, becomes-trans, joined-becomes, adds-becomes}

-- ---- literals

pub narrow-becomes : (old new : SsuBuild) (node : SsuNode) (root id n v : ℕ) → is_narrow v ≡ true → word v ≡ v → Grown old new node id → node_of node ≡ ssu.Does (ssu.Lit n v) → successors_of node ≡ root ∷ [] → Becomes old new root id (atom_literal n (Lit v))
narrow-becomes old new node root id n v e w g a k =
    let same : ssu.Do (ssu.Lit n v) ≡ atom_literal n (Lit v) = ap (λ b. literal b n v) (sym e) ∙ ap (λ x. literal (is_narrow x) n x) (sym w) in
    subst (Becomes old new root id) same (becomes-node old new node root id (ssu.Lit n v) g a k)

pub wide-becomes : (a b c d : SsuBuild) (whole down up : SsuNode) (root i j k n v : ℕ)
    → Grown a b whole i → node_of whole ≡ ssu.Does (ssu.Bin (n + 2) Or n (n + 1)) → successors_of whole ≡ root ∷ []
    → Grown b c down j → node_of down ≡ ssu.Does (ssu.Lit (n + 1) (low v)) → successors_of down ≡ i ∷ []
    → Grown c d up k → node_of up ≡ ssu.Does (ssu.Lit n (high v)) → successors_of up ≡ j ∷ [] → Becomes a d root k (literal false n v)
wide-becomes a b c d whole down up root i j k n v g e f g' e' f' g'' e'' f'' =
    let one = becomes-node a b whole root i (ssu.Bin (n + 2) Or n (n + 1)) g e f in
    let two = becomes-node b c down i j (ssu.Lit (n + 1) (low v)) g' e' f' in
    let three = becomes-node c d up j k (ssu.Lit n (high v)) g'' e'' f'' in
    becomes-trans a c d root j k (λ t. ssu.Do (ssu.Lit (n + 1) (low v)) (ssu.Do (ssu.Bin (n + 2) Or n (n + 1)) t)) (ssu.Do (ssu.Lit n (high v)))
    (becomes-trans a b c root i j (ssu.Do (ssu.Bin (n + 2) Or n (n + 1))) (ssu.Do (ssu.Lit (n + 1) (low v))) one two) three

-- ---- clones

pub clone-becomes : (old new : SsuBuild) (node : SsuNode) (root id first n : ℕ) (copies : List ℕ) (own : ℕ) → nat_lt 1 n ≡ true → copies ≡ range_with_len first n → own ≡ first + n → Grown old new node id → node_of node ≡ ssu.Does (ssu.Clone copies own) → successors_of node ≡ root ∷ []
    → Becomes old new root id (clone_step (nat_lt 1 n) first n)
clone-becomes old new node root id first n copies own two ec eo g a k =
    let same : ssu.Do (ssu.Clone copies own) ≡ clone_step (nat_lt 1 n) first n = ap (λ l. ssu.Do (ssu.Clone l own)) ec ∙ ap (λ z. ssu.Do (ssu.Clone (range_with_len first n) z)) eo ∙ ap (λ b. clone_step b first n) (sym two) in
    subst (Becomes old new root id) same (becomes-node old new node root id (ssu.Clone copies own) g a k)

-- ---- nodes

pub let-made : (old a b new : SsuBuild) (node : SsuNode) (root behind i id : ℕ) (base r r' : Counts) (n x own : ℕ) (p : Primitive) (list : List Atom) (ys : List ℕ)
    → Becomes old a root behind (clones base r (x ∷ [])) → own ≡ value base r x → ((y : ℕ) → r' y ≡ outside (x ∷ []) r y) → list ≡ operands p → ys ≡ names base r' n list
    → Grown a b node i → node_of node ≡ ssu.Does (prim_step own p ys) → successors_of node ≡ behind ∷ [] → Becomes b new i id (literals n list) → Becomes old new root id (made_let base n x p r)
let-made old a b new node root behind i id base r r' n x own p list ys c eo er el ey g en ek l =
    let s = prim_step own p ys in
    let C = clones base r (x ∷ []) in
    let same : (λ t. literals n list (ssu.Do s (C t))) ≡ made_let base n x p r =
    ap (λ z. λ t. literals n list (ssu.Do (prim_step z p ys) (C t))) eo
    ∙ ap (λ zs. λ t. literals n list (ssu.Do (prim_step (value base r x) p zs) (C t))) ey
    ∙ ap (λ k. λ t. literals n k (ssu.Do (prim_step (value base r x) p (names base r' n k)) (C t))) el
    ∙ ap (λ f. λ t. literals n (operands p) (ssu.Do (prim_step (value base r x) p (names base f n (operands p))) (C t))) (same-everywhere r' (outside (x ∷ []) r) er) in
    subst (Becomes old new root id) same
    (becomes-trans old b new root i id (λ t. ssu.Do s (C t)) (literals n list) (becomes-trans old a b root behind i C (ssu.Do s) c (becomes-node a b node behind i s g en ek)) l)

pub read-made : (old a b new : SsuBuild) (node : SsuNode) (root behind i id : ℕ) (base r r' : Counts) (n : ℕ) (m : Mem) (xs : List ℕ) (atom : Atom) (own ys : List ℕ) (y : ℕ)
    → Becomes old a root behind (clones base r xs) → own ≡ map (value base r) xs → ((y : ℕ) → r' y ≡ outside xs r y) → ys ≡ names base r' n (atom ∷ []) → y ≡ slice_index ys 0
    → Grown a b node i → node_of node ≡ ssu.Does (ssu.Read m own y) → successors_of node ≡ behind ∷ [] → Becomes b new i id (literals n (atom ∷ [])) → Becomes old new root id (made_read base n m xs atom r)
read-made old a b new node root behind i id base r r' n m xs atom own ys y c eo er ey e0 g en ek l =
    let s = ssu.Read m own y in
    let C = clones base r xs in
    let list = atom ∷ [] in
    let same : (λ t. literals n list (ssu.Do s (C t))) ≡ made_read base n m xs atom r =
    ap (λ z. λ t. literals n list (ssu.Do (ssu.Read m z y) (C t))) eo
    ∙ ap (λ z. λ t. literals n list (ssu.Do (ssu.Read m (map (value base r) xs) z) (C t))) e0
    ∙ ap (λ zs. λ t. literals n list (ssu.Do (ssu.Read m (map (value base r) xs) (slice_index zs 0)) (C t))) ey
    ∙ ap (λ f. λ t. literals n list (ssu.Do (ssu.Read m (map (value base r) xs) (slice_index (names base f n list) 0)) (C t))) (same-everywhere r' (outside xs r) er) in
    subst (Becomes old new root id) same
    (becomes-trans old b new root i id (λ t. ssu.Do s (C t)) (literals n list) (becomes-trans old a b root behind i C (ssu.Do s) c (becomes-node a b node behind i s g en ek)) l)

pub write-made : (old b new : SsuBuild) (node : SsuNode) (root i id : ℕ) (base r : Counts) (n : ℕ) (m : Mem) (atom : Atom) (bs list : List Atom) (ys words : List ℕ) (y : ℕ)
    → list ≡ atom ∷ bs → ys ≡ names base r n list → y ≡ slice_index ys 0 → words ≡ drop 1 ys
    → Grown old b node i → node_of node ≡ ssu.Does (ssu.Write m y words) → successors_of node ≡ root ∷ [] → Becomes b new i id (literals n list) → Becomes old new root id (made_write base n m atom bs r)
write-made old b new node root i id base r n m atom bs list ys words y el ey e0 ew g en ek l =
    let s = ssu.Write m y words in
    let same : (λ t. literals n list (ssu.Do s t)) ≡ made_write base n m atom bs r =
    ap (λ z. λ t. literals n list (ssu.Do (ssu.Write m z words) t)) e0
    ∙ ap (λ z. λ t. literals n list (ssu.Do (ssu.Write m (slice_index ys 0) z) t)) ew
    ∙ ap (λ zs. λ t. literals n list (ssu.Do (ssu.Write m (slice_index zs 0) (drop 1 zs)) t)) ey
    ∙ ap (λ k. λ t. literals n k (ssu.Do (ssu.Write m (slice_index (names base r n k) 0) (drop 1 (names base r n k))) t)) el in
    subst (Becomes old new root id) same (becomes-trans old b new root i id (ssu.Do s) (literals n list) (becomes-node old b node root i s g en ek) l)

pub if-made : (old b new : SsuBuild) (node : SsuNode) (first second i id : ℕ) (base r r' : Counts) (n : ℕ) (c : Cmp) (a a' : Atom) (ys : List ℕ) (x y : ℕ)
    → ((y : ℕ) → r' y ≡ r y) → ys ≡ names base r' n (a ∷ a' ∷ []) → x ≡ slice_index ys 0 → y ≡ slice_index ys 1
    → Grown old b node i → node_of node ≡ ssu.Forks c x y → successors_of node ≡ first ∷ second ∷ [] → Becomes b new i id (literals n (a ∷ a' ∷ [])) → Joined old new first second id (made_if base n c a a' r)
if-made old b new node first second i id base r r' n c a a' ys x y er ey ex ez g en ek l =
    let list = a ∷ a' ∷ [] in
    let same : (λ t u. literals n list (ssu.If c x y t u)) ≡ made_if base n c a a' r =
    ap (λ z. λ t u. literals n list (ssu.If c z y t u)) ex
    ∙ ap (λ z. λ t u. literals n list (ssu.If c (slice_index ys 0) z t u)) ez
    ∙ ap (λ zs. λ t u. literals n list (ssu.If c (slice_index zs 0) (slice_index zs 1) t u)) ey
    ∙ ap (λ f. λ t u. literals n list (ssu.If c (slice_index (names base f n list) 0) (slice_index (names base f n list) 1) t u)) (same-everywhere r' r er) in
    subst (Joined old new first second id) same (joined-becomes old b new first second i id (ssu.If c x y) (literals n list) (joined-node old b node first second i c x y g en ek) l)

pub jump-made : (old b new : SsuBuild) (node : SsuNode) (i id : ℕ) (base r : Counts) (n j : ℕ) (bs : List Atom) (ys : List ℕ) → ((y : ℕ) → r y ≡ 0) → ys ≡ names base r n bs
    → Grown old b node i → node_of node ≡ ssu.Ends (ssu.Jump j ys) → successors_of node ≡ [] → Becomes b new i id (literals n bs) → Adds old new id (made_jump base n j bs)
jump-made old b new node i id base r n j bs ys er ey g en ek l =
    let same : literals n bs (ssu.End (ssu.Jump j ys)) ≡ made_jump base n j bs =
    ap (λ zs. literals n bs (ssu.End (ssu.Jump j zs))) (ey ∙ ap (λ f. names base f n bs) (same-everywhere r (λ y. 0) er)) in
    subst (Adds old new id) same (adds-becomes old b new i id (ssu.End (ssu.Jump j ys)) (literals n bs) (adds-node old b node i (ssu.Jump j ys) g en ek) l)

pub halt-made : (old b new : SsuBuild) (node : SsuNode) (i id : ℕ) (base r : Counts) (n e : ℕ) (bs : List Atom) (ys words : List ℕ) → ((y : ℕ) → r y ≡ 0) → ys ≡ names base r n bs → words ≡ ys
    → Grown old b node i → node_of node ≡ ssu.Ends (ssu.Halt e words) → successors_of node ≡ [] → Becomes b new i id (literals n bs) → Adds old new id (made_halt base n e bs)
halt-made old b new node i id base r n e bs ys words er ey ew g en ek l =
    let same : literals n bs (ssu.End (ssu.Halt e words)) ≡ made_halt base n e bs =
    ap (λ zs. literals n bs (ssu.End (ssu.Halt e zs))) (ew ∙ ey ∙ ap (λ f. names base f n bs) (same-everywhere r (λ y. 0) er)) in
    subst (Adds old new id) same (adds-becomes old b new i id (ssu.End (ssu.Halt e words)) (literals n bs) (adds-node old b node i (ssu.Halt e words) g en ek) l)

-- ---- where names lie

is-among : (x y : ℕ) (xs : List ℕ) → is_in y (xs ++ x ∷ []) ≡ true → ((y ≡ x) × (nat_eq y x ≡ true)) ⊎ ((is_in y xs ≡ true) × (nat_eq y x ≡ false))
is-among x y xs i =
    ⊎_elim (λ (e : nat_eq y x ≡ true). inl (same-number y x e, e))
    (λ (e : nat_eq y x ≡ false). ⊎_elim (λ (p : is_in y xs ≡ true). inr (p, e)) (λ (p : (nat_eq y x || false) ≡ true). ⊎_elim (λ (q : nat_eq y x ≡ true). absurd (false≢true (sym e ∙ q))) (λ (q : false ≡ true). absurd (false≢true q)) (or_cases (nat_eq y x) false p))
    (or_cases (is_in y xs) (nat_eq y x || false) (sym (in-append y xs (x ∷ [])) ∙ i))) (cases_Bool (nat_eq y x))

pub laid-more : (base next size : Counts) (c d e x : ℕ) (xs : List ℕ) → LaidOut base size c d xs → ((y : ℕ) → next y ≡ (if nat_eq y x then d else base y)) → e ≡ d + size x + 1 → LaidOut next size c e (xs ++ x ∷ [])
laid-more base next size c d e x xs h en ee =
    let here : (y : ℕ) → nat_eq y x ≡ true → next y ≡ d = λ y q. en y ∙ ap (λ b. if b then d else base y) q in
    let there : (y : ℕ) → nat_eq y x ≡ false → next y ≡ base y = λ y q. en y ∙ ap (λ b. if b then d else base y) q in
    let least = h.after in
    record {
      after = omega (arith, ee);
      laid = record {
        start = λ y i. ⊎_elim (λ (p : (y ≡ x) × (nat_eq y x ≡ true)). omega (arith, here y p.1)) (λ (p : (is_in y xs ≡ true) × (nat_eq y x ≡ false)). let a = h.laid.start y p.0 in omega (arith, there y p.1)) (is-among x y xs i);
        below = λ y i. ⊎_elim (λ (p : (y ≡ x) × (nat_eq y x ≡ true)). let s : size y ≡ size x = ap size p.0 in omega (arith, here y p.1, ee, s)) (λ (p : (is_in y xs ≡ true) × (nat_eq y x ≡ false)). let a = h.laid.below y p.0 in omega (arith, there y p.1, ee)) (is-among x y xs i);
        apart = λ y z i j ne.
            ⊎_elim
            (λ (p : (y ≡ x) × (nat_eq y x ≡ true)). ⊎_elim (λ (q : (z ≡ x) × (nat_eq z x ≡ true)). absurd (ne (p.0 ∙ sym q.0))) (λ (q : (is_in z xs ≡ true) × (nat_eq z x ≡ false)). let a = h.laid.below z q.0 in inr (omega (arith, here y p.1, there z q.1))) (is-among x z xs j))
            (λ (p : (is_in y xs ≡ true) × (nat_eq y x ≡ false)). ⊎_elim (λ (q : (z ≡ x) × (nat_eq z x ≡ true)). let a = h.laid.below y p.0 in inl (omega (arith, there y p.1, here z q.1)))
            (λ (q : (is_in z xs ≡ true) × (nat_eq z x ≡ false)). ⊎_elim (λ (s : base y + size y < base z). inl (omega (arith, there y p.1, there z q.1))) (λ (s : base z + size z < base y). inr (omega (arith, there y p.1, there z q.1))) (h.laid.apart y z p.0 q.0 ne)) (is-among x z xs j))
            (is-among x y xs i);
      };
    }

-- ---- labels

pub label-made : (old mid new : SsuBuild) (l : Label) (s : SsuLabel) (c n d : ℕ) (base size : Counts) (variables' : List ℕ) (part : Part) → LaidOut base size c n variables' → variables' ≡ l.params ++ defined l.body → ((y : ℕ) → size y ≡ all_uses l.body y)
    → MadeTo base n l.body old mid d part → s.params.items ≡ map (value base (counted part.counts)) l.params → Becomes mid new part.root.0 s.body.0 (clones base (counted part.counts) l.params) → LabelMade l s c d old new
label-made old mid new l s c n d base size variables' part laid ev es m ep b =
    let r = uses l.body in
    let counts : counted part.counts ≡ r = same-everywhere (counted part.counts) r m.counts in
    let T = made base n l.body in
    let body : clones base (counted part.counts) l.params T ≡ clones base r l.params T = ap (λ f. clones base f l.params T) counts in
    record {
      tree = clones base r l.params T;
      adds = subst (Adds old new s.body.0) body (adds-becomes old mid new part.root.0 s.body.0 T (clones base (counted part.counts) l.params) m.adds b);
      made = record {
        base = base;
        first = n;
        after = laid.after;
        laid = subst (λ f. Laid base f c n (variables l)) (same-everywhere size (all_uses l.body) es) (subst (Laid base size c n) ev laid.laid);
        is = ap (λ q. record { params = q; body = clones base r l.params T }) (ep ∙ ap (λ f. map (value base f) l.params) counts);
        next = m.fresh;
      };
    }

made-last : (c d e : ℕ) (ls : List Label) (ss : List ssu.Label) (l : Label) (s : ssu.Label) → AllMadeTo c d ls ss → IsMade d e l s → AllMadeTo c e (ls ++ l ∷ []) (ss ++ s ∷ [])
made-last c d e [] [] l s m is = (e, subst (λ k. IsMade k e l s) (sym m) is, refl)
made-last c d e [] (t ∷ ss) l s m is = absurd m
made-last c d e (k ∷ ls) [] l s m is = absurd m
made-last c d e (k ∷ ls) (t ∷ ss) l s m is = (m.0, m.1, made-last m.0 d e ls ss l s m.2 is)

all-made : (c d : ℕ) (ls : List Label) (ss : List ssu.Label) → AllMadeTo c d ls ss → AllMade c ls ss
all-made c d [] [] m = tt
all-made c d [] (t ∷ ss) m = absurd m
all-made c d (k ∷ ls) [] m = absurd m
all-made c d (k ∷ ls) (t ∷ ss) m = (m.0, m.1, all-made m.0 d ls ss m.2)

ids-append : (a b : List Rooted) → ids (a ++ b) ≡ ids a ++ ids b
ids-append [] b = refl
ids-append (x ∷ a) b = ap (λ l. x.0 ∷ l) (ids-append a b)

bodies-last : (ss : List SsuLabel) (s : SsuLabel) (roots : List Rooted) (r : Rooted) → ids roots ≡ bodies ss → with_bodies (ss ++ s ∷ []) (trees_of (roots ++ r ∷ [])) ≡ with_bodies ss (trees_of roots) ++ record { params = s.params.items; body = r.1 } ∷ []
bodies-last [] s [] r e = refl
bodies-last [] s (x ∷ roots) r e = absurd (cc)
bodies-last (t ∷ ss) s [] r e = absurd (cc)
bodies-last (t ∷ ss) s (x ∷ roots) r e = let rest : ids roots ≡ bodies ss = cc in ap (λ l. record { params = t.params.items; body = x.1 } ∷ l) (bodies-last ss s roots r rest)

pub labels-more : (old new : SsuBuild) (ls : List Label) (ss ss' : List SsuLabel) (l : Label) (s : SsuLabel) (d e : ℕ) → LabelsOn ls ss old d → LabelMade l s d e old new → ss' ≡ ss ++ s ∷ [] → LabelsOn (ls ++ l ∷ []) ss' new e
labels-more old new ls ss ss' l s d e h m es =
    let r : Rooted = (s.body.0, m.tree) in
    let roots = h.roots ++ r ∷ [] in
    let front : Holds new (r ∷ h.roots) = m.adds.by h.roots h.holds in
    let swapped : Holds new (h.roots ++ (r ∷ [])) = (brought (nodes_in new) (r ∷ []) h.roots [] (subst (λ k. Holds new (r ∷ k)) (sym (append-nil h.roots)) front)) in
    record {
      roots = roots;
      holds = swapped;
      at_bodies = ids-append h.roots (r ∷ []) ∙ ap (λ k. k ++ s.body.0 ∷ []) h.at_bodies ∙ sym (bodies-append ss (s ∷ [])) ∙ ap bodies (sym es);
      made = subst (λ k. AllMadeTo 0 e (ls ++ l ∷ []) (with_bodies k (trees_of roots))) (sym es)
          (subst (AllMadeTo 0 e (ls ++ l ∷ [])) (sym (bodies-last ss s h.roots r h.at_bodies)) (made-last 0 d e ls (with_bodies ss (trees_of h.roots)) l (record { params = s.params.items; body = m.tree }) h.made m.made));
    }

pub labels-end : (ls : List Label) (ss : List SsuLabel) (b : SsuBuild) (d : ℕ) → LabelsOn ls ss b d → LabelsMade ls ss b
labels-end ls ss b d h = record { roots = h.roots; holds = h.holds; at_bodies = h.at_bodies; made = all-made 0 d ls (with_bodies ss (trees_of h.roots)) h.made }

-- the whole of the labels
pub whole-made : (ls ls' : List Label) (ss : List SsuLabel) (b : SsuBuild) (view : List ssu.Label) → LabelsMade ls ss b → ((roots : List Rooted) → Holds b roots → ids roots ≡ bodies ss → view ≡ with_bodies ss (trees_of roots)) → ls ≡ ls' → AllMade 0 ls' view
whole-made ls ls' ss b view m h e = subst (λ l. AllMade 0 l view) e (subst (AllMade 0 ls) (sym (h m.roots m.holds m.at_bodies)) m.made)
