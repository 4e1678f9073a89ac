-- A flow and its single use form do the same within each number of jumps.
use Rattle.std.proofs.Common.{◌≡◌, ℕ, zero, suc, ◌+◌, ◌≤◌, Bool, true, false, List, [], ◌∷◌, ◌++◌, map, Option, Some, None, refl, sym, ap, ◌∙◌, if◌then◌else◌, length, slice_get, slice_index, drop, arith}
use Rattle.std.specs.List.{list_all}
use Rattle.std.specs.Int.Bits.{or_zero_r}
use Rattle.std.proofs.lemmas.Bool.{and_parts}
use Rattle.std.proofs.lemmas.List.{length-map}
use Rattle.nv_base.specs.declared.term.Primitive.{Primitive}
use Rattle.nv_base.specs.declared.term.Primitive.TheVariants.{Same, Una as UnaOf, Bin as BinOf}
use Rattle.nv_base.specs.declared.term.Bin.TheVariants.{Or}
use Rattle.nv_base.specs.Memories.{Memories, fetched, stored}
use Rattle.nv_base.specs.Meanings.{FullOutcome, AreEqual}
use Rattle.nv_base.specs.Words.{Env, assigned, assigned_all, atom_word, atom_words, prim_word, una_word, bin_word, compares}
use Rattle.nv_base.specs.World.{World, begun, over, ended, after_read, read_words, wrote, after_write, write_words}
use Rattle.nv_base.specs.Sets.{Within}
use Rattle.nv_base.proofs.Sets.{within-left, within-right}
use Rattle.flow_ir.specs.Tree.{Tree, Let, Read, Write, If, Jump, Halt, Label}
use Rattle.flow_ir.specs.Meaning as flow
use Rattle.flow_ir.specs.Formed.{defined, is_formed, is_label}
use Rattle.ssu_make.specs.Uses.{Counts, occurs, operands, outside, uses, all_uses}
use Rattle.ssu_make.specs.Made.{value, names, clones, prim_step, spent, most, made, Laid, variables, IsMade, AllMade}
use Rattle.ssu_ir.specs.Tree as ssu
use Rattle.ssu_ir.specs.Meaning.{Next, does, enter, run, blank, ssu_meaning}
use Rattle.ssu_make.proofs.Literals.{Agrees, literals_env, literals-do, names-words, agrees-behind}
use Rattle.ssu_make.proofs.Clones.{clones_env, clones-do, values-agree}
use Rattle.ssu_make.proofs.Fitting.{Fits, fits-let, fits-read, fits-write, fits-first, fits-second, place-of, outside-least}

-- ---- accesses with the same that follows

read-alike : (found : Option (List ℕ)) (bad : FullOutcome) (f g : List ℕ → FullOutcome) → ((ws : List ℕ) → f ws ≡ g ws) → after_read found bad f ≡ after_read found bad g
read-alike (Some ws) bad f g h = h ws
read-alike None bad f g h = refl

write-alike : (found : Option Memories) (bad : FullOutcome) (f g : Memories → FullOutcome) → ((p : Memories) → f p ≡ g p) → after_write found bad f ≡ after_write found bad g
write-alike (Some p) bad f g h = h p
write-alike None bad f g h = refl

if-alike : (b : Bool) (r s r' s' : FullOutcome) → r ≡ r' → s ≡ s' → (if b then r else s) ≡ (if b then r' else s')
if-alike true r s r' s' h g = h
if-alike false r s r' s' h g = g

-- ---- a primitive by names whose words are those of its operands

prim-does : (next : Next) (base r : Counts) (n x : ℕ) (p : Primitive) (t : ssu.Tree) (env e : Env) (w : World) → map e (names base r n (operands p)) ≡ atom_words env (operands p)
    → does next (ssu.Do (prim_step x p (names base r n (operands p))) t) e w ≡ does next t (assigned e x (prim_word env p)) w
prim-does next base r n x (Same a) t env e w h =
    let first : e (slice_index (names base r n (operands (Same a))) 0) ≡ atom_word env a = ap (λ ws. slice_index ws 0) h in
    let second : e (slice_index (names base r n (operands (Same a))) 1) ≡ 0 = ap (λ ws. slice_index ws 1) h in
    ap (λ v. does next t (assigned e x (bin_word Or v (e (slice_index (names base r n (operands (Same a))) 1)))) w) first
    ∙ ap (λ v. does next t (assigned e x (bin_word Or (atom_word env a) v)) w) second ∙ ap (λ v. does next t (assigned e x v) w) (or_zero_r (atom_word env a))
prim-does next base r n x (UnaOf op a) t env e w h =
    let first : e (slice_index (names base r n (operands (UnaOf op a))) 0) ≡ atom_word env a = ap (λ ws. slice_index ws 0) h in
    ap (λ v. does next t (assigned e x (una_word op v)) w) first
prim-does next base r n x (BinOf op a b) t env e w h =
    let first : e (slice_index (names base r n (operands (BinOf op a b))) 0) ≡ atom_word env a = ap (λ ws. slice_index ws 0) h in
    let second : e (slice_index (names base r n (operands (BinOf op a b))) 1) ≡ atom_word env b = ap (λ ws. slice_index ws 1) h in
    ap (λ v. does next t (assigned e x (bin_word op v (e (slice_index (names base r n (operands (BinOf op a b))) 1)))) w) first
    ∙ ap (λ v. does next t (assigned e x (bin_word op (atom_word env a) v)) w) second

weaker : (base r s : Counts) (m : ℕ) (env e : Env) → ((y : ℕ) → s y ≤ r y) → Agrees base r m env e → Agrees base s m env e
weaker base r s m env e le g = record {
  below = λ y k lt. let l = le y in g.below y k (omega arith);
  same = λ y k lt. let l = le y in g.same y k (omega arith);
}

inside : (x : ℕ) (vs known : List ℕ) → Within (x ∷ known) vs → Within (x ∷ []) vs
inside x vs known h = λ y i. h y (within-left (x ∷ []) known y i)

-- ---- trees

module _ (next : Next) (next' : flow.Next) (h : (l : ℕ) (ws : List ℕ) (w : World) → next l ws w ≡ next' l ws w) (labels : List Label) (base size : Counts) (c d : ℕ) (vs : List ℕ) (laid : Laid base size c d vs) where
  pub trees-alike : (t : Tree) (known : List ℕ) (n : ℕ) (env e : Env) (w : World) → Fits labels vs size known t → d ≤ n → Agrees base (uses t) d env e → does next (made base n t) e w ≡ flow.does next' t env w
  trees-alike (Let x p t) known n env e w f le g =
      let N = n + spent t in
      let far : d ≤ N = omega arith in
      let ft = fits-let labels vs size known x p t f in
      let r = outside (x ∷ []) (uses t) in
      let E = literals_env N (operands p) e in
      let v = prim_word env p in
      let behind = agrees-behind base r d N (operands p) env e far g in
      let E' = clones_env base (uses t) (x ∷ []) (assigned E (value base (uses t) x) v) in
      literals-do next N (operands p) _ e w
      ∙ prim-does next base r N (value base (uses t) x) p (clones base (uses t) (x ∷ []) (made base n t)) env E w (names-words base r d N (operands p) env e far g)
      ∙ clones-do next base (uses t) (x ∷ []) (made base n t) (assigned E (value base (uses t) x) v) w
      ∙ trees-alike t (x ∷ known) n (assigned env x v) E' w ft le (values-agree base (uses t) d vs (x ∷ []) (v ∷ []) env E (place-of base size c d labels vs (x ∷ known) t laid ft) (inside x vs known ft.within) behind)
  trees-alike (Read m xs a t) known n env e w f le g =
      let N = n + spent t in
      let far : d ≤ N = omega arith in
      let ft = fits-read labels vs size known m xs a t f in
      let r = outside xs (uses t) in
      let E = literals_env N (a ∷ []) e in
      let y = slice_index (names base r N (a ∷ [])) 0 in
      let word-is : E y ≡ atom_word env a = ap (λ ws. slice_index ws 0) (names-words base r d N (a ∷ []) env e far g) in
      let behind = agrees-behind base r d N (a ∷ []) env e far g in
      let T = clones base (uses t) xs (made base n t) in
      literals-do next N (a ∷ []) _ e w
      ∙ ap (λ z. read_words m z (length (map (value base (uses t)) xs)) w (λ ws. does next T (assigned_all E (map (value base (uses t)) xs) ws) w)) word-is
      ∙ ap (λ k. read_words m (atom_word env a) k w (λ ws. does next T (assigned_all E (map (value base (uses t)) xs) ws) w)) (length-map xs (value base (uses t)))
      ∙ read-alike (fetched m (atom_word env a) (length xs) w.packet) _ _ _ (λ ws.
      clones-do next base (uses t) xs (made base n t) (assigned_all E (map (value base (uses t)) xs) ws) w
      ∙ trees-alike t (xs ++ known) n (assigned_all env xs ws) (clones_env base (uses t) xs (assigned_all E (map (value base (uses t)) xs) ws)) w ft le
      (values-agree base (uses t) d vs xs ws env E (place-of base size c d labels vs (xs ++ known) t laid ft) (λ z i. ft.within z (within-left xs known z i)) behind))
  trees-alike (Write m a bs t) known n env e w f le g =
      let N = n + spent t in
      let far : d ≤ N = omega arith in
      let ft = fits-write labels vs size known m a bs t f in
      let r = uses t in
      let E = literals_env N (a ∷ bs) e in
      let ys = names base r N (a ∷ bs) in
      let words-are = names-words base r d N (a ∷ bs) env e far g in
      let word-is : E (slice_index ys 0) ≡ atom_word env a = ap (λ ws. slice_index ws 0) words-are in
      let rest-is : map E (drop 1 ys) ≡ atom_words env bs = ap (λ ws. drop 1 ws) words-are in
      let behind = agrees-behind base r d N (a ∷ bs) env e far g in
      literals-do next N (a ∷ bs) _ e w
      ∙ ap (λ z. write_words m z (map E (drop 1 ys)) w (λ v. does next (made base n t) E v)) word-is
      ∙ ap (λ ws. write_words m (atom_word env a) ws w (λ v. does next (made base n t) E v)) rest-is
      ∙ write-alike (stored m (atom_word env a) (atom_words env bs) w.packet) _ _ _ (λ p. trees-alike t known n env E (wrote m (atom_word env a) (atom_words env bs) p w) ft le behind)
  trees-alike (If q a b t u) known n env e w f le g =
      let N = n + (spent u + spent t) in
      let far : d ≤ N = omega arith in
      let r = most (uses t) (uses u) in
      let E = literals_env N (a ∷ b ∷ []) e in
      let ys = names base r N (a ∷ b ∷ []) in
      let words-are = names-words base r d N (a ∷ b ∷ []) env e far g in
      let first : E (slice_index ys 0) ≡ atom_word env a = ap (λ ws. slice_index ws 0) words-are in
      let second : E (slice_index ys 1) ≡ atom_word env b = ap (λ ws. slice_index ws 1) words-are in
      let behind = agrees-behind base r d N (a ∷ b ∷ []) env e far g in
      let T = does next (made base (n + spent u) t) E w in
      let U = does next (made base n u) E w in
      literals-do next N (a ∷ b ∷ []) _ e w
      ∙ ap (λ z. if compares q z (E (slice_index ys 1)) then T else U) first
      ∙ ap (λ z. if compares q (atom_word env a) z then T else U) second
      ∙ if-alike (compares q (atom_word env a) (atom_word env b)) _ _ _ _
      (trees-alike t known (n + spent u) env E w (fits-first labels vs size known q a b t u f) (omega arith) (weaker base r (uses t) d env E (λ y. omega arith) behind))
      (trees-alike u known n env E w (fits-second labels vs size known q a b t u f) le (weaker base r (uses u) d env E (λ y. omega arith) behind))
  trees-alike (Jump l bs) known n env e w f le g =
      literals-do next n bs _ e w
      ∙ ap (λ ws. next l ws w) (names-words base (λ y. 0) d n bs env e le (weaker base (occurs bs) (λ y. occurs bs y + 0) d env e (λ y. omega arith) g)) ∙ h l (atom_words env bs) w
  trees-alike (Halt k bs) known n env e w f le g =
      literals-do next n bs _ e w
      ∙ ap (λ ws. over (ended k ws) w) (names-words base (λ y. 0) d n bs env e le (weaker base (occurs bs) (λ y. occurs bs y + 0) d env e (λ y. omega arith) g))

-- ---- labels

pub label-fits : (labels : List Label) (l : Label) → is_label labels l ≡ true → Fits labels (variables l) (all_uses l.body) l.params l.body
label-fits labels l f = record {
  formed = (and_parts (is_formed labels l.params l.body) _ f).0;
  within = within-left l.params (defined l.body);
  defs = within-right l.params (defined l.body);
  sized = λ y. omega arith;
}

label-alike : (next : Next) (next' : flow.Next) (h : (l : ℕ) (ws : List ℕ) (w : World) → next l ws w ≡ next' l ws w) (labels : List Label) (c d : ℕ) (l : Label) (s : ssu.Label) → is_label labels l ≡ true → IsMade c d l s
    → (ws : List ℕ) (w : World) → does next s.body (assigned_all blank s.params ws) w ≡ flow.does next' l.body (assigned_all blank l.params ws) w
label-alike next next' h labels c d l s f is ws w =
    let base = is.base in
    let n = is.first in
    let r = uses l.body in
    let fits = label-fits labels l f in
    let place = place-of base (all_uses l.body) c n labels (variables l) l.params l.body is.laid fits in
    let e = assigned_all blank (map (value base r) l.params) ws in
    let start : Agrees base (outside l.params r) n blank blank = record {
      below = λ y k lt. let le = outside-least l.params r y in let b = place.below y (place.live y (omega arith)) in omega arith;
      same = λ y k lt. refl;
    } in
    ap (λ (z : ssu.Label). does next z.body (assigned_all blank z.params ws) w) is.is
    ∙ clones-do next base r l.params (made base n l.body) e w
    ∙ trees-alike next next' h labels base (all_uses l.body) c n (variables l) is.laid l.body l.params n (assigned_all blank l.params ws) (clones_env base r l.params e) w fits (omega arith)
    (values-agree base r n (variables l) l.params ws blank blank place fits.within start)

enter-alike : (next : Next) (next' : flow.Next) (h : (l : ℕ) (ws : List ℕ) (w : World) → next l ws w ≡ next' l ws w) (labels : List Label) (c : ℕ) (ls : List Label) (ss : List ssu.Label) → list_all (is_label labels) ls ≡ true → AllMade c ls ss
    → (l : ℕ) (ws : List ℕ) (w : World) → enter next (slice_get ss l) ws w ≡ flow.enter next' (slice_get ls l) ws w
enter-alike next next' h labels c [] [] f m l ws w = refl
enter-alike next next' h labels c [] (s ∷ ss) f m l ws w = absurd m
enter-alike next next' h labels c (k ∷ ls) [] f m l ws w = absurd m
enter-alike next next' h labels c (k ∷ ls) (s ∷ ss) f m zero ws w = label-alike next next' h labels c m.0 k s (and_parts (is_label labels k) (list_all (is_label labels) ls) f).0 m.1 ws w
enter-alike next next' h labels c (k ∷ ls) (s ∷ ss) f m (suc l) ws w = enter-alike next next' h labels m.0 ls ss (and_parts (is_label labels k) (list_all (is_label labels) ls) f).1 m.2 l ws w

pub run-alike : (c : ℕ) (ls : List Label) (ss : List ssu.Label) → list_all (is_label ls) ls ≡ true → AllMade c ls ss → (n l : ℕ) (ws : List ℕ) (w : World) → run ss n l ws w ≡ flow.run ls n l ws w
run-alike c ls ss f m zero l ws w = refl
run-alike c ls ss f m (suc n) l ws w = enter-alike (run ss n) (flow.run ls n) (run-alike c ls ss f m n) ls c ls ss f m l ws w

pub equal : (c : ℕ) (ls : List Label) (ss : List ssu.Label) → list_all (is_label ls) ls ≡ true → AllMade c ls ss → AreEqual (flow.flow_params ls) (flow.flow_meaning ls) (ssu_meaning ss)
equal c ls ss f m args p a s calls = sym (enter-alike (run ss calls) (flow.run ls calls) (run-alike c ls ss f m calls) ls c ls ss f m 0 args (begun p))
