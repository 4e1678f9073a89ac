-- A program is well formed where its functions are, and each of them is called from main on.
use Rattle.std.proofs.Common.{◌≡◌, ℕ, zero, suc, ◌<◌, ◌≤◌, ◌==◌, Bool, true, false, nat_eq, nat_le, ◌&&◌, List, [], ◌∷◌, ◌++◌, refl, sym, ap, subst, ◌∙◌, append-nil, ⊎_elim, Option, Some, length, slice_get, if◌then◌else◌, arith}
use Rattle.std.specs.List.{list_all}
use Rattle.std.proofs.lemmas.Bool.{and_parts, and_from, or_cases, eq-eqb, eqb-true, le-leb, leb-true, ltb-true, false≢true, cases_lt}
use Rattle.std.proofs.lemmas.Option.{slice_get_within, same_Some}
use Rattle.nv_ast.specs.Tree.{Tree}
use Rattle.nv_ast.specs.Types.{Tys, total_words}
use Rattle.nv_ast.specs.Scope.{Context}
use Rattle.nv_ast.specs.Typing.{type_at}
use Rattle.nv_ast.specs.Faults.{Expected, faults}
use Rattle.flat_ir.specs.declared.flat.Flat.{Flat}
use Rattle.flat_ir.specs.declared.flat.Flat.TheVariants.{Let', Fetch', Store', If', Bind', Call, Raise, Try', Give}
use Rattle.flat_ir.specs.declared.flat.FlatFun.{FlatFun}
use Rattle.nv_base.specs.Sets.{is_in, all_different}
use Rattle.nv_base.specs.Access.{is_known, all_known, is_primitive, can_move, is_address}
use Rattle.flat_ir.specs.Formed.{may_stand, can_call, is_formed, defined, raised, all_raised, agree, is_function, is_main, is_program}
use Rattle.nv_base.proofs.Sets.{in-append}
use Rattle.nv_flatten_values.specs.inner.Symbols.{SymbolScope, numbers_from}
use Rattle.nv_flatten_values.specs.inner.Simulation.{Names, Extends}
use Rattle.nv_flatten_values.specs.inner.Whole.{Whole, Stands, raised_tys}
use Rattle.flat_ir.specs.Reached.{calls, Reached, itself, called, AreReached}
use Rattle.nv_flatten_values.specs.inner.Well.{FunsMatch, AreShort, Linked, ScopeKnown, Rises, IsRaised, RaisedMatch, GivesWords, IsWellEnd, IsWellFun, AreCalled}
use Rattle.nv_flatten_values.proofs.WellBasics.{rises-append, rises-numbers, rises-different, raised-both}
use Rattle.nv_flatten_values.proofs.WellSteps.{linked-fewer}
use Rattle.nv_flatten_values.proofs.CallArms.{get-append}

-- ---- functions

-- a function whose body was walked in its place
pub walked-fun : (w : Whole) (old names : Names) (k high own : ℕ) (p : Context) (wanted : Expected) (scope : SymbolScope) (e : Tree) (fun : FlatFun) → fun.group ≡ own → p.tail ≡ true → Stands w own scope p → faults p wanted e ≡ []
    → fun.params.items ≡ numbers_from 0 k → ScopeKnown fun.params.items scope → IsWellEnd w old names k high scope e fun.body → GivesWords fun.results (type_at p.known p.vars e) → IsWellFun w names fun
walked-fun w old names k high own p wanted scope e fun group tail st f params known a gives =
    let code = a.well own p wanted st f in
    record {
      formed = λ l.
          subst (λ g. is_formed l.funs g true fun.results fun.params.items fun.body ≡ true) (sym group)
          (subst (λ b. is_formed l.funs own b fun.results fun.params.items fun.body ≡ true) tail (code.formed l fun.params.items known fun.results gives));
      different = rises-different 0 (fun.params.items ++ defined fun.body) high
          (rises-append 0 k high fun.params.items (defined fun.body) (subst (λ xs. Rises 0 xs k) (sym params) (rises-numbers 0 k k (omega arith))) code.rises);
      raises = code.raises;
    }

-- one that gives nothing
pub empty-fun : (w : Whole) (names : Names) (fun : FlatFun) (bs : _) → fun.body ≡ Give bs → bs.items ≡ [] → fun.params.items ≡ [] → fun.results ≡ 0 → IsWellFun w names fun
empty-fun w names fun bs body none params results = record {
  formed = λ l.
      ap (is_formed l.funs fun.group true fun.results fun.params.items) body
      ∙ and_from (all_known fun.params.items bs.items) (length bs.items == fun.results) (ap (all_known fun.params.items) none) (eq-eqb (length bs.items) fun.results (ap length none ∙ sym results));
  different = subst (λ t. all_different (fun.params.items ++ defined t) ≡ true) (sym body) (subst (λ xs. all_different (xs ++ []) ≡ true) (sym params) refl);
  raises = subst (λ t. RaisedMatch w (raised t)) (sym body) (tt {0});
}

pub fun-names : (w : Whole) (names more : Names) (fun : FlatFun) → Extends names more → IsWellFun w names fun → IsWellFun w more fun
fun-names w names more fun h a = record {
  formed = λ l. a.formed (linked-fewer w names more h l);
  different = a.different;
  raises = a.raises;
}

-- ---- what code calls: functions of earlier groups, and in tail position those of the own one, which give as many words
may-parts : (tail : Bool) (own group : ℕ) → may_stand tail own group ≡ true → (group ≤ own) × (group ≡ own → tail ≡ true)
may-parts true own group e = (leb-true group own e, λ h. refl)
may-parts false own group e = let lt : group < own = ltb-true group own e in (omega arith, λ h. absurd (omega arith))

-- the function is of an earlier group, or this is tail position and it gives N words
abbrev pub IsCalled : ℕ → Bool → ℕ → FlatFun → Type 0
IsCalled own tail n g = (g.group ≤ own) × (g.group ≡ own → (tail ≡ true) × (g.results ≡ n))

not-tail : (own : ℕ) (tail : Bool) (m n : ℕ) (g : FlatFun) → IsCalled own false m g → IsCalled own tail n g
not-tail own tail m n g h = (h.0, λ e. absurd (false≢true (h.1 e).0))

called-at : (own : ℕ) (tail : Bool) (given n : ℕ) (o : Option FlatFun) (g : FlatFun) → o ≡ Some g → can_call own tail given n o ≡ true → IsCalled own tail n g
called-at own tail given n o g at e =
    let e' : can_call own tail given n (Some g) ≡ true = subst (λ x. can_call own tail given n x ≡ true) at e in
    let p = and_parts (length g.params.items == given) ((g.results == n) && may_stand tail own g.group) e' in
    let q = and_parts (g.results == n) (may_stand tail own g.group) p.1 in
    let m = may-parts tail own g.group q.1 in
    (m.0, λ h. (m.1 h, eqb-true g.results n q.0))

only-one : (j f : ℕ) → is_in j (f ∷ []) ≡ true → j ≡ f
only-one j f e = ⊎_elim (λ (p : nat_eq j f ≡ true). eqb-true j f p) (λ (p : false ≡ true). absurd (false≢true p)) (or_cases (nat_eq j f) false e)

pub calls-formed : (funs : List FlatFun) (own : ℕ) (tail : Bool) (n : ℕ) (known : List ℕ) (t : Flat) (j : ℕ) (g : FlatFun) → slice_get funs j ≡ Some g → is_formed funs own tail n known t ≡ true → is_in j (calls t) ≡ true → IsCalled own tail n g
calls-formed funs own tail n known (Let' x a q t) j g at e i = calls-formed funs own tail n (x ∷ known) t j g at (and_parts (is_primitive known a) (is_formed funs own tail n (x ∷ known) t) e).1 i
calls-formed funs own tail n known (Fetch' m xs a q t) j g at e i =
    let move = can_move m (length xs.items) in
    let address = is_address m a (length xs.items) in
    let rest = is_formed funs own tail n (xs.items ++ known) t in
    let p1 = and_parts (is_known known a) (move && (address && rest)) e in
    let p2 = and_parts move (address && rest) p1.1 in
    calls-formed funs own tail n (xs.items ++ known) t j g at (and_parts address rest p2.1).1 i
calls-formed funs own tail n known (Store' m a bs q t) j g at e i =
    let all = all_known known bs.items in
    let move = can_move m (length bs.items) in
    let address = is_address m a (length bs.items) in
    let rest = is_formed funs own tail n known t in
    let p1 = and_parts (is_known known a) (all && (move && (address && rest))) e in
    let p2 = and_parts all (move && (address && rest)) p1.1 in
    let p3 = and_parts move (address && rest) p2.1 in
    calls-formed funs own tail n known t j g at (and_parts address rest p3.1).1 i
calls-formed funs own tail n known (If' c a b q t r u) j g at e i =
    let ft = is_formed funs own tail n known t in
    let fu = is_formed funs own tail n known u in
    let p1 = and_parts (is_known known a) (is_known known b && (ft && fu)) e in
    let p2 = and_parts (is_known known b) (ft && fu) p1.1 in
    let p3 = and_parts ft fu p2.1 in
    ⊎_elim (λ (x : is_in j (calls t) ≡ true). calls-formed funs own tail n known t j g at p3.0 x) (λ (x : is_in j (calls u) ≡ true). calls-formed funs own tail n known u j g at p3.1 x)
    (or_cases (is_in j (calls t)) (is_in j (calls u)) (sym (in-append j (calls t) (calls u)) ∙ i))
calls-formed funs own tail n known (Bind' xs q t r u) j g at e i =
    let p = and_parts (is_formed funs own false (length xs.items) known t) (is_formed funs own tail n (xs.items ++ known) u) e in
    ⊎_elim (λ (x : is_in j (calls t) ≡ true). not-tail own tail (length xs.items) n g (calls-formed funs own false (length xs.items) known t j g at p.0 x))
    (λ (x : is_in j (calls u) ≡ true). calls-formed funs own tail n (xs.items ++ known) u j g at p.1 x) (or_cases (is_in j (calls t)) (is_in j (calls u)) (sym (in-append j (calls t) (calls u)) ∙ i))
calls-formed funs own tail n known (Call f bs) j g at e i =
    let p = and_parts (all_known known bs.items) (can_call own tail (length bs.items) n (slice_get funs f)) e in
    called-at own tail (length bs.items) n (slice_get funs f) g (ap (slice_get funs) (sym (only-one j f i)) ∙ at) p.1
calls-formed funs own tail n known (Raise k bs) j g at e i = absurd (false≢true i)
calls-formed funs own tail n known (Try' q t k xs r u) j g at e i =
    let ft = is_formed funs own false n known t in
    let fu = is_formed funs own tail n (xs.items ++ known) u in
    let p1 = and_parts ft (nat_le 1 k && fu) e in
    let p2 = and_parts (nat_le 1 k) fu p1.1 in
    ⊎_elim (λ (x : is_in j (calls t) ≡ true). not-tail own tail n n g (calls-formed funs own false n known t j g at p1.0 x)) (λ (x : is_in j (calls u) ≡ true). calls-formed funs own tail n (xs.items ++ known) u j g at p2.1 x)
    (or_cases (is_in j (calls t)) (is_in j (calls u)) (sym (in-append j (calls t) (calls u)) ∙ i))
calls-formed funs own tail n known (Give bs) j g at e i = absurd (false≢true i)

-- from main on, groups only become earlier, and the functions of main's group give as many words as main
abbrev AreFormed : List FlatFun → Type 0
AreFormed funs = (i : ℕ) (fun : FlatFun) → slice_get funs i ≡ Some fun → is_formed funs fun.group true fun.results fun.params.items fun.body ≡ true

reached-results : (funs : List FlatFun) (main : FlatFun) → AreFormed funs → slice_get funs 0 ≡ Some main → (i : ℕ) → Reached funs 0 i → (g : FlatFun) → slice_get funs i ≡ Some g → (g.group ≤ main.group) × (g.group ≡ main.group → g.results ≡ main.results)
reached-results funs main formed first i itself g at = let same : g ≡ main = same_Some g main (sym at ∙ first) in subst (λ x. (x.group ≤ main.group) × (x.group ≡ main.group → x.results ≡ main.results)) (sym same) (omega arith, λ e. refl)
reached-results funs main formed first i (called k j f reached there calling) g at =
    let before = reached-results funs main formed first k reached f there in
    let call = calls-formed funs f.group true f.results f.params.items f.body i g at (formed k f there) calling in
    let a : f.group ≤ main.group = before.0 in
    let b : g.group ≤ f.group = call.0 in
    (omega arith, λ e. (call.1 (omega arith)).1 ∙ before.1 (omega arith))

-- ---- exceptions
agree-if : (b : Bool) (m n : ℕ) → (b ≡ true → m ≡ n) → (if b then m == n else true) ≡ true
agree-if true m n h = eq-eqb m n (h refl)
agree-if false m n h = refl

same-raised : (w : Whole) (r : ℕ × ℕ) (k n : ℕ) (ts : Tys) → raised_tys w k ≡ Some ts → n ≡ total_words ts → IsRaised w r → (r.0 == k) ≡ true → r.1 ≡ n
same-raised w r k n ts found many h e =
    let same : h.0 ≡ ts = same_Some h.0 ts (sym h.1 ∙ ap (raised_tys w) (eqb-true r.0 k e) ∙ found) in
    h.2 ∙ ap total_words same ∙ sym many

agree-one : (w : Whole) (k n : ℕ) (ts : Tys) (rest : List (ℕ × ℕ)) → raised_tys w k ≡ Some ts → n ≡ total_words ts → RaisedMatch w rest → list_all (λ r. if r.0 == k then r.1 == n else true) rest ≡ true
agree-one w k n ts [] found many h = refl
agree-one w k n ts (r ∷ rest) found many h =
    and_from (if r.0 == k then r.1 == n else true) (list_all (λ r. if r.0 == k then r.1 == n else true) rest) (agree-if (r.0 == k) r.1 n (λ e. same-raised w r k n ts found many h.0 e)) (agree-one w k n ts rest found many h.1)

all-agree : (w : Whole) (rs : List (ℕ × ℕ)) → RaisedMatch w rs → agree rs ≡ true
all-agree w [] h = refl
all-agree w ((k, n) ∷ rest) h =
    and_from (list_all (λ r. if r.0 == k then r.1 == n else true) rest) (agree rest) (agree-one w k n (h.0).0 rest (h.0).1 (h.0).2 h.1) (all-agree w rest h.1)

all-match : (w : Whole) (fs : List FlatFun) → ((i : ℕ) (fun : FlatFun) → slice_get fs i ≡ Some fun → RaisedMatch w (raised fun.body)) → RaisedMatch w (all_raised fs)
all-match w [] h = tt {0}
all-match w (f ∷ fs) h = raised-both w (raised f.body) (all_raised fs) (h 0 f refl) (all-match w fs (λ i fun e. h (suc i) fun e))

all-from : (test : FlatFun → Bool) (fs : List FlatFun) → ((i : ℕ) (fun : FlatFun) → slice_get fs i ≡ Some fun → test fun ≡ true) → list_all test fs ≡ true
all-from test [] h = refl
all-from test (f ∷ fs) h = and_from (test f) (list_all test fs) (h 0 f refl) (all-from test fs (λ i fun e. h (suc i) fun e))

small-if : (b : Bool) (n : ℕ) → (b ≡ true → n ≤ 8) → (if b then nat_le n 8 else true) ≡ true
small-if true n h = le-leb n 8 (h refl)
small-if false n h = refl

-- ---- the program: main is the function 0
pub program-formed : (w : Whole) (names : Names) (funs : List FlatFun) (main : FlatFun) → FunsMatch w names funs → AreShort w → ((i : ℕ) (fun : FlatFun) → slice_get funs i ≡ Some fun → IsWellFun w names fun)
    → AreReached funs 0 → slice_get funs 0 ≡ Some main → length main.params.items ≤ 8 → main.results ≤ 8 → is_program funs 0 ≡ true
program-formed w names funs main match short well reached first params results =
    let l : Linked w names = record { all = names; more = ([], sym (append-nil names)); funs = funs; match = match; short = short } in
    let formed : AreFormed funs = λ i fun e. (well i fun e).formed l in
    and_from (list_all (is_function funs) funs) (agree (all_raised funs) && is_main funs (slice_get funs 0))
    (all-from (is_function funs) funs
    (λ i fun e.
    and_from (is_formed funs fun.group true fun.results fun.params.items fun.body) (all_different (fun.params.items ++ defined fun.body)) (formed i fun e) (well i fun e).different))
    (and_from (agree (all_raised funs)) (is_main funs (slice_get funs 0)) (all-agree w (all_raised funs) (all-match w funs (λ i fun e. (well i fun e).raises)))
    (ap (is_main funs) first
    ∙ and_from (nat_le (length main.params.items) 8) (list_all (λ g. if g.group == main.group then nat_le g.results 8 else true) funs) (le-leb (length main.params.items) 8 params)
    (all-from (λ g. if g.group == main.group then nat_le g.results 8 else true) funs
    (λ i fun e.
    small-if (fun.group == main.group) fun.results
    (λ same.
    let there = reached-results funs main formed first i (reached i (slice_get_within funs i fun e)) fun e in
    let words : fun.results ≡ main.results = there.1 (eqb-true fun.group main.group same) in
    omega arith)))))

-- ---- each function is reached, where each name but the first was added for a call

-- each number behind 0 is called by a function with a lower one
pub record AreFound (names : Names) (funs : List FlatFun) : Type 0 where
  pub by : (i : ℕ) → 0 < i → i < length names → (j : ℕ) × (fun : FlatFun) × (j < i) × (slice_get funs j ≡ Some fun) × (is_in i (calls fun.body) ≡ true)

pub found-first : (x : List ℕ) → AreFound (x ∷ []) []
found-first x = record { by = λ i lo hi. absurd (omega arith) }

get-last : (funs : List FlatFun) (fun : FlatFun) → slice_get (funs ++ fun ∷ []) (length funs) ≡ Some fun
get-last [] fun = refl
get-last (f ∷ funs) fun = get-last funs fun

pub found-more : (old new : Names) (funs : List FlatFun) (fun : FlatFun) → length funs < length old → AreFound old funs → AreCalled old new (calls fun.body) → AreFound new (funs ++ fun ∷ [])
found-more old new funs fun here h made = record {
  by = λ i lo hi.
      ⊎_elim (λ (below : i < length old). let f = h.by i lo below in (f.0, f.1, f.2, get-append funs (fun ∷ []) f.0 f.1 f.3, f.4))
      (λ (above : length old ≤ i). (length funs, fun, omega arith, get-last funs fun, made i above hi)) (cases_lt i (length old));
}

reach : (names : Names) (funs : List FlatFun) → AreFound names funs → (bound i : ℕ) → i < bound → i < length names → Reached funs 0 i
reach names funs h zero i lt hi = absurd (omega arith)
reach names funs h (suc bound) zero lt hi = itself
reach names funs h (suc bound) (suc i) lt hi = let f = h.by (suc i) (omega arith) hi in let less = f.2 in called f.0 (suc i) f.1 (reach names funs h bound f.0 (omega arith) (omega arith)) f.3 f.4

pub found-reached : (names : Names) (funs : List FlatFun) → length funs ≤ length names → AreFound names funs → AreReached funs 0
found-reached names funs le h = λ i hi. reach names funs h (suc i) i (omega arith) (omega arith)
