-- Walks down a tree of fields: to what stands under a name, for a name that is there twice, and for the fields in order.
use Rattle.std.proofs.Common.{◌≡◌, ◌∙◌, refl, ap, sym, subst, ℕ, Bool, true, false, cond, ◌||◌, eqb, List, [], ◌∷◌, ◌++◌, append_assoc, append-nil, get_or, position, Option, None, Some, is_some, is_none, slice_get, bytes_eq, true≢false, ◌<◌, IfSome, All, Result, arith}
use Rattle.std.specs.Result.{OnOk}
use Rattle.std.proofs.lemmas.Result.{on_ok_weaker}
use Rattle.std.specs.Borrow.{Bor}
use Rattle.std.specs.Cmp.Lexicographic.{bytes_decides, nat_list_eq_equiv}
use Rattle.std.specs.List.{list_any}
use Rattle.std.proofs.lemmas.List.Folds.{list_any-append}
use Rattle.std.proofs.lemmas.List.Elements.{All-append, All-cons, All-nil}
use Rattle.std.proofs.lemmas.Bool.{eqb-true, eq-eqb, false≢true}
use Rattle.std.proofs.lemmas.Option.{slice_get-get_or, none-some, same_Some}
use Rattle.std.proofs.lemmas.List.Quantifiers.{position-Some}
use Rattle.nv_ast.specs.Tests.{is_among, has_twice, look_up}
use Rattle.nv_ast.specs.Types.{Ty, WordTy, BoolTy, TupleTy, RecordTy, NamedTys, no_named_tys, named_ty_and, Forms}
use Rattle.nv_ast.specs.Typing.{fields_of, field_ty}
use Rattle.nv_types_table.specs.declared.table.Cell.TheVariants.{Field, Both}
use Rattle.nv_types_table.specs.inner.Rows.{Row, both, leaves, field_with}
use Rattle.nv_types_table.specs.inner.Store.{Store, IsStore, Stands, IsRow, IsType, AreFieldCells, IsFields, IsForms, IsValue, record_in, AreNames, AreNamed, AreSeen, field_names, form_names}
use Rattle.nv_types_table.specs.inner.Named.{plain_names}
use Rattle.nv_types_table.specs.inner.Lists.{AreOnes}
use Rattle.nv_types_table.proofs.Found.{name_at, any_name, absent_name}
use Rattle.nv_types_table.proofs.FieldCells.{names_split, cells_names, form_cells_names}
use Rattle.nv_types_table.proofs.FieldLists.{stands_field, stands_both, is_tree_cell, stands_other, IsTest, row_ended, row_stands, ones_then}
use Rattle.nv_types_table.proofs.TypeCells.{record_some}
use Rattle.nv_ast.proofs.Twice.{twice_more, twice_before}
use Rattle.nv_types_table.proofs.KnownRows.{or_false}

-- two names have the same number exactly where they are the same
pub number_name : (s : Store) → IsStore s → (m n : ℕ) (x y : List ℕ) → slice_get s.names m ≡ Some x → slice_get s.names n ≡ Some y → eqb m n ≡ bytes_eq x y
number_name s is m n x y h k = by (eqb m n) (bytes_eq x y) refl refl
  where
    by : (a b : Bool) → eqb m n ≡ a → bytes_eq x y ≡ b → a ≡ b
    by true true e f = refl
    by false false e f = refl
    by true false e f = sym (sym f ∙ (bytes_decides x y).1 (same_Some x y (sym h ∙ ap (slice_get s.names) (eqb-true m n e) ∙ k)))
    by false true e f = sym e ∙ eq-eqb m n (is.one_name m n x h (k ∙ ap Some (sym ((bytes_decides x y).0 f))))

-- a name that is found, and one that isn't
pub found_name : (keys : List (Bor (List ℕ))) (x : Bor (List ℕ)) (i : ℕ) → position (λ k. bytes_eq x.now k.now) keys ≡ Some i → slice_get (plain_names keys) i ≡ Some x.now
found_name keys x i h =
    let p = position-Some (λ (k : Bor (List ℕ)). bytes_eq x.now k.now) keys i x h in
    name_at keys i (get_or keys i x) (slice_get-get_or keys i x p.0) ∙ ap Some (sym ((bytes_decides x.now (get_or keys i x).now).0 p.1))

pub missing_name : (keys : List (Bor (List ℕ))) (x : List ℕ) → list_any (λ k. bytes_eq x k.now) keys ≡ false → (i : ℕ) → slice_get (plain_names keys) i ≡ Some x → ⊥
missing_name keys x none i h = absent_name (plain_names keys) x (sym (any_name keys x) ∙ none) i h

-- the same of what is found
pub name_found : (keys : List (Bor (List ℕ))) (x : Bor (List ℕ)) (names : List (List ℕ)) (r : Option ℕ) → plain_names keys ≡ names → r ≡ position (λ k. bytes_eq x.now k.now) keys → IfSome r (λ i. slice_get names i ≡ Some x.now)
name_found keys x names None same e = tt
name_found keys x names (Some i) same e = subst (λ (ns : List (List ℕ)). slice_get ns i ≡ Some x.now) same (found_name keys x i (sym e))

pub name_missing : (keys : List (Bor (List ℕ))) (x : List ℕ) (names : List (List ℕ)) (r : Option ℕ) → plain_names keys ≡ names → is_some r ≡ list_any (λ k. bytes_eq x k.now) keys → is_none r ≡ true → (i : ℕ) → slice_get names i ≡ Some x → ⊥
name_missing keys x names None same e none i h = missing_name keys x (sym e) i (ap (λ (ns : List (List ℕ)). slice_get ns i) same ∙ h)
name_missing keys x names (Some j) same e none i h = absurd (false≢true none)

-- ---- what stands under a name: in the left tree, or else in the right one
found_front : (n t : ℕ) (ps qs : List (ℕ × ℕ)) → Some t ≡ field_with n ps → Some t ≡ field_with n (ps ++ qs)
found_front n t [] qs e = absurd (none-some t (sym e))
found_front n t (p ∷ ps) qs e = by (eqb p.0 n) (found_front n t ps qs) e
  where
    by : (b : Bool) → (Some t ≡ field_with n ps → Some t ≡ field_with n (ps ++ qs)) → Some t ≡ cond b (Some p.1) (field_with n ps) → Some t ≡ cond b (Some p.1) (field_with n (ps ++ qs))
    by true rest f = f
    by false rest f = rest f

found_behind : (n : ℕ) (ps qs : List (ℕ × ℕ)) → None ≡ field_with n ps → field_with n qs ≡ field_with n (ps ++ qs)
found_behind n [] qs e = refl
found_behind n (p ∷ ps) qs e = by (eqb p.0 n) (found_behind n ps qs) e
  where
    by : (b : Bool) → (None ≡ field_with n ps → field_with n qs ≡ field_with n (ps ++ qs)) → None ≡ cond b (Some p.1) (field_with n ps) → field_with n qs ≡ cond b (Some p.1) (field_with n (ps ++ qs))
    by true rest f = absurd (none-some p.1 f)
    by false rest f = rest f

pub found_here : (s : Store) (i n j m : ℕ) → slice_get s.cells i ≡ Some (Field n j) → eqb n m ≡ true → (t : Row) → Stands s i t → Some j ≡ field_with m (leaves t)
found_here s i n j m at same t h = ap (λ b. cond b (Some j) None) (sym same) ∙ ap (λ u. field_with m (leaves u)) (sym (stands_field s i n j at t h))

pub found_other : (s : Store) (i n j m : ℕ) → slice_get s.cells i ≡ Some (Field n j) → eqb n m ≡ false → (t : Row) → Stands s i t → None ≡ field_with m (leaves t)
found_other s i n j m at other t h = ap (λ b. cond b (Some j) None) (sym other) ∙ ap (λ u. field_with m (leaves u)) (sym (stands_field s i n j at t h))

pub found_left : (s : Store) (i j k m r : ℕ) → slice_get s.cells i ≡ Some (Both j k) → ((t : Row) → Stands s j t → Some r ≡ field_with m (leaves t))
    → (t : Row) → Stands s i t → Some r ≡ field_with m (leaves t)
found_left s i j k m r at left t h =
    let v = stands_both s i j k at t h in
    found_front m r (leaves v.left) (leaves v.right) (left v.left v.of_left) ∙ ap (λ u. field_with m (leaves u)) (sym v.whole)

pub found_right : (s : Store) (i j k m : ℕ) (r : Option ℕ) → slice_get s.cells i ≡ Some (Both j k) → ((t : Row) → Stands s j t → None ≡ field_with m (leaves t)) → ((t : Row) → Stands s k t → r ≡ field_with m (leaves t))
    → (t : Row) → Stands s i t → r ≡ field_with m (leaves t)
found_right s i j k m r at left right t h =
    let v = stands_both s i j k at t h in
    right v.right v.of_right ∙ found_behind m (leaves v.left) (leaves v.right) (left v.left v.of_left) ∙ ap (λ u. field_with m (leaves u)) (sym v.whole)

pub found_below : (r : Option ℕ) (k i : ℕ) → k < i → IfSome r (λ t. t < k) → IfSome r (λ t. t < i)
found_below None k i less h = tt
found_below (Some t) k i less h = omega (arith, less, h)

-- ---- the type of a field, by the number of its name
pub cells_value : (s : Store) → IsStore s → (m : ℕ) (x : List ℕ) → slice_get s.names m ≡ Some x → (ps : List (ℕ × ℕ)) (ts : NamedTys) → AreFieldCells s ps ts
    → IsValue s (field_with m ps) (look_up x (fields_of ts))
cells_value s is m x name [] no_named_tys h = tt
cells_value s is m x name [] (named_ty_and y t ts) h = absurd h
cells_value s is m x name (p ∷ ps) no_named_tys h = absurd h
cells_value s is m x name (p ∷ ps) (named_ty_and y t ts) h =
    by (eqb p.0 m) (bytes_eq x y) (number_name s is p.0 m y x h.0 name ∙ nat_list_eq_equiv.symm y x) (cells_value s is m x name ps ts h.2)
  where
    by : (a b : Bool) → a ≡ b → IsValue s (field_with m ps) (look_up x (fields_of ts)) → IsValue s (cond a (Some p.1) (field_with m ps)) (cond b (Some t) (look_up x (fields_of ts)))
    by true true e rest = h.1
    by false false e rest = rest
    by true false e rest = absurd (true≢false e)
    by false true e rest = absurd (true≢false (sym e))

pub field_value : (s : Store) → IsStore s → (x : List ℕ) (m t list : ℕ) (r : Option ℕ) → slice_get s.names m ≡ Some x → record_in (slice_get s.cells t) ≡ Some list
    → ((ps : List (ℕ × ℕ)) → IsRow s list ps → r ≡ field_with m ps) → (u : Ty) → IsType s t u → IsValue s r (field_ty x (Some u))
field_value s is x m t list r name at found u h =
    let q = record_some s is t list u h at in
    let v = cells_value s is m x name q.2.0 q.0 q.2.2 in
    subst (λ (o : Option ℕ). IsValue s o (field_ty x (Some u))) (sym (found q.2.0 q.2.1)) (subst (λ (w : Ty). IsValue s (field_with m q.2.0) (field_ty x (Some w))) (sym q.1) v)

pub no_record_field : (s : Store) (x : List ℕ) (t : ℕ) → record_in (slice_get s.cells t) ≡ None → (u : Ty) → IsType s t u → IsValue s None (field_ty x (Some u))
no_record_field s x t none WordTy h = tt
no_record_field s x t none BoolTy h = tt
no_record_field s x t none (TupleTy ts) h = tt
no_record_field s x t none (RecordTy ts) h = absurd (none-some h.0 (sym none ∙ ap record_in h.1))

absent_field : (s : Store) (x : List ℕ) → ((n : ℕ) → slice_get s.names n ≡ Some x → ⊥) → (ps : List (ℕ × ℕ)) (ts : NamedTys) → AreFieldCells s ps ts → look_up x (fields_of ts) ≡ None
absent_field s x none [] no_named_tys h = refl
absent_field s x none [] (named_ty_and y t ts) h = absurd h
absent_field s x none (p ∷ ps) no_named_tys h = absurd h
absent_field s x none (p ∷ ps) (named_ty_and y t ts) h = by (bytes_eq x y) refl (absent_field s x none ps ts h.2)
  where
    by : (b : Bool) → bytes_eq x y ≡ b → look_up x (fields_of ts) ≡ None → cond b (Some t) (look_up x (fields_of ts)) ≡ None
    by true e rest = absurd (none p.0 (h.0 ∙ ap Some (sym ((bytes_decides x y).0 e))))
    by false e rest = rest

pub no_such_field : (s : Store) (x : List ℕ) → ((n : ℕ) → slice_get s.names n ≡ Some x → ⊥) → (t : ℕ) (u : Ty) → IsType s t u → IsValue s None (field_ty x (Some u))
no_such_field s x none t WordTy h = tt
no_such_field s x none t BoolTy h = tt
no_such_field s x none t (TupleTy ts) h = tt
no_such_field s x none t (RecordTy ts) h = subst (IsValue s None) (sym (absent_field s x none h.2.0 ts h.2.2)) tt

-- ---- a list of fields or forms by its names
pub fields_named : (s : Store) (i : ℕ) (ts : NamedTys) → IsFields s i ts → AreNamed s i (field_names ts)
fields_named s i ts h = (h.0, h.1, cells_names s h.0 ts h.2)

pub forms_named : (s : Store) (i : ℕ) (fs : Forms) → IsForms s i fs → AreNamed s i (form_names fs)
forms_named s i fs h = (h.0, h.1, form_cells_names s h.0 fs h.2)

-- ---- names that were seen, and those of a tree after them
pub seen_none : (s : Store) → AreSeen s [] []
seen_none s = record { once = refl; each = λ n x at. refl }

-- what is said of some names and those of a tree after them
abbrev pub SaysSo : Store → ℕ → List ℕ → (List (List ℕ) → Type 0) → Type 0
SaysSo s i old Q = (t : Row) (xs names : List (List ℕ)) → AreSeen s old xs → Stands s i t → AreNames s (leaves t) names → Q (xs ++ names)

pub meets_one : (s : Store) (i n j : ℕ) → slice_get s.cells i ≡ Some (Field n j) → (old : List ℕ) → SaysSo s i old (λ l. list_any (eqb n) old ≡ has_twice l)
meets_one s i n j at old t xs names before h k = by names (subst (λ u. AreNames s (leaves u) names) (stands_field s i n j at t h) k)
  where
    by : (ys : List (List ℕ)) → AreNames s ((n, j) ∷ []) ys → list_any (eqb n) old ≡ has_twice (xs ++ ys)
    by [] l = absurd l
    by (y ∷ []) l = before.each n y l.0 ∙ or_false (is_among y xs) ∙ ap (λ b. is_among y xs || b) (sym before.once) ∙ sym (twice_more xs y)
    by (y ∷ z ∷ ys) l = absurd l.1

pub seen_one : (s : Store) → IsStore s → (i n j : ℕ) → slice_get s.cells i ≡ Some (Field n j) → (old : List ℕ) → list_any (eqb n) old ≡ false → SaysSo s i old (AreSeen s (old ++ n ∷ []))
seen_one s is i n j at old absent t xs names before h k = by names (subst (λ u. AreNames s (leaves u) names) (stands_field s i n j at t h) k)
  where
    by : (ys : List (List ℕ)) → AreNames s ((n, j) ∷ []) ys → AreSeen s (old ++ n ∷ []) (xs ++ ys)
    by [] l = absurd l
    by (y ∷ []) l = record {
      once = twice_more xs y ∙ ap (λ b. b || has_twice xs) (sym (before.each n y l.0) ∙ absent) ∙ before.once;
      each = λ m x name.
          list_any-append (eqb m) old (n ∷ [])
          ∙ ap (λ b. b || (eqb m n || false)) (before.each m x name)
          ∙ ap (λ b. is_among x xs || (b || false)) (number_name s is m n x y name l.0)
          ∙ sym (list_any-append (bytes_eq x) xs (y ∷ []));
    }
    by (y ∷ z ∷ ys) l = absurd l.1

-- of both of two trees: a name was met in the left one, or the right one stands after that
pub meets_left : (s : Store) (i j k : ℕ) → slice_get s.cells i ≡ Some (Both j k) → (old : List ℕ) (b : Bool) → SaysSo s j old (λ l. b ≡ has_twice l) → b ≡ true → SaysSo s i old (λ l. true ≡ has_twice l)
meets_left s i j k at old b left e t xs names before h named =
    let v = stands_both s i j k at t h in
    let w = names_split s (leaves v.left) (leaves v.right) names (subst (λ u. AreNames s (leaves u) names) v.whole named) in
    let twice = twice_before (xs ++ w.0) w.1 (sym (left v.left xs w.0 before v.of_left w.3) ∙ e) in
    sym (ap has_twice (ap (λ l. xs ++ l) w.2 ∙ sym (append_assoc xs w.0 w.1)) ∙ twice)

pub meets_right : (s : Store) (i j k : ℕ) → slice_get s.cells i ≡ Some (Both j k) → (old new : List ℕ) (b : Bool) → SaysSo s j old (λ l. b ≡ false → AreSeen s new l) → b ≡ false
    → (Q : List (List ℕ) → Type 0) → SaysSo s k new Q → SaysSo s i old Q
meets_right s i j k at old new b left e Q right t xs names before h named =
    let v = stands_both s i j k at t h in
    let w = names_split s (leaves v.left) (leaves v.right) names (subst (λ u. AreNames s (leaves u) names) v.whole named) in
    subst Q (append_assoc xs w.0 w.1 ∙ ap (λ l. xs ++ l) (sym w.2)) (right v.right (xs ++ w.0) w.1 (left v.left xs w.0 before v.of_left w.3 e) v.of_right w.4)

-- of a list: it is empty or a tree
pub names_end : (s : Store) (i : ℕ) (b : Bool) → IsTest s i b → b ≡ true → (xs names : List (List ℕ)) → AreNamed s i names → xs ≡ xs ++ names
names_end s i b test e xs names h = by names (subst (λ ps. AreNames s ps names) (row_ended s i b test e h.0 h.1) h.2)
  where
    by : (ys : List (List ℕ)) → AreNames s [] ys → xs ≡ xs ++ ys
    by [] k = sym (append-nil xs)
    by (y ∷ ys) k = absurd k

pub names_row : (s : Store) (i : ℕ) (b : Bool) → IsTest s i b → b ≡ false → (old : List ℕ) (Q : List (List ℕ) → Type 0) → SaysSo s i old Q → (xs names : List (List ℕ)) → AreSeen s old xs → AreNamed s i names → Q (xs ++ names)
names_row s i b test e old Q so xs names before h =
    let v = row_stands s i b test e h.0 h.1 in
    so v.tree xs names before v.stands (subst (λ ps. AreNames s ps names) (sym v.fields) h.2)

-- ---- the fields in order
pub cells_one : (s : Store) (i n j : ℕ) → slice_get s.cells i ≡ Some (Field n j) → (old new : List (ℕ × ℕ)) → new ≡ old ++ (n, j) ∷ [] → (t : Row) → Stands s i t → new ≡ old ++ leaves t
cells_one s i n j at old new e t h = e ∙ ap (λ u. old ++ leaves u) (sym (stands_field s i n j at t h))

pub cells_none : (s : Store) (i : ℕ) → is_tree_cell (slice_get s.cells i) ≡ false → (old : List (ℕ × ℕ)) (t : Row) → Stands s i t → old ≡ old ++ leaves t
cells_none s i other old t h = absurd (stands_other s i other t h)

pub cells_both : {T E : Type 0} (s : Store) (i j k : ℕ) → slice_get s.cells i ≡ Some (Both j k) → (r : Result T E) (old front new : List (ℕ × ℕ)) → ((t : Row) → Stands s j t → front ≡ old ++ leaves t)
    → ((t : Row) → Stands s k t → OnOk r (new ≡ front ++ leaves t)) → (t : Row) → Stands s i t → OnOk r (new ≡ old ++ leaves t)
cells_both s i j k at r old front new left right t h =
    let v = stands_both s i j k at t h in
    let behind : front ++ leaves v.right ≡ old ++ leaves t = ap (λ l. l ++ leaves v.right) (left v.left v.of_left) ∙ append_assoc old (leaves v.left) (leaves v.right) ∙ ap (λ u. old ++ leaves u) (sym v.whole) in
    on_ok_weaker r (λ e. e ∙ behind) (right v.right v.of_right)

pub below_one : (n x t : ℕ) (old new : List (ℕ × ℕ)) → new ≡ old ++ (x, t) ∷ [] → t < n → All (λ (p : ℕ × ℕ). p.1 < n) old → All (λ (p : ℕ × ℕ). p.1 < n) new
below_one n x t old new e less all =
    let P : ℕ × ℕ → Type 0 = λ (p : ℕ × ℕ). p.1 < n in
    subst (All P) (sym e) (All-append P old ((x, t) ∷ []) all (All-cons P (x, t) [] less (All-nil P)))

-- ---- the lists of one field each
abbrev pub LeavesSo : List ℕ → List ℕ → Store → Row → Type 0
LeavesSo old new s t = (more : List ℕ) × (new ≡ old ++ more) × AreOnes s more (leaves t)

pub leaves_one : (s : Store) (i n j : ℕ) → slice_get s.cells i ≡ Some (Field n j) → (old new : List ℕ) → new ≡ old ++ i ∷ [] → (t : Row) → Stands s i t → LeavesSo old new s t
leaves_one s i n j at old new e t h = (i ∷ [], e, subst (λ u. AreOnes s (i ∷ []) (leaves u)) (sym (stands_field s i n j at t h)) (at, tt))

pub leaves_both : {T E : Type 0} (s : Store) (i j k : ℕ) → slice_get s.cells i ≡ Some (Both j k) → (r : Result T E) (old front new : List ℕ) → ((t : Row) → Stands s j t → LeavesSo old front s t)
    → ((t : Row) → Stands s k t → OnOk r (LeavesSo front new s t)) → (t : Row) → Stands s i t → OnOk r (LeavesSo old new s t)
leaves_both s i j k at r old front new left right t h =
    let v = stands_both s i j k at t h in
    on_ok_weaker r (joins v.left v.right v.whole (left v.left v.of_left)) (right v.right v.of_right)
  where
    joins : (u w : Row) → t ≡ both u w → LeavesSo old front s u → LeavesSo front new s w → LeavesSo old new s t
    joins u w e a b =
        (a.0 ++ b.0, b.1 ∙ ap (λ l. l ++ b.0) a.1 ∙ append_assoc old a.0 b.0, subst (λ x. AreOnes s (a.0 ++ b.0) (leaves x)) (sym e) (ones_then s a.0 b.0 (leaves u) (leaves w) a.2 b.2))
