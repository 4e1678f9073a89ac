-- What the code keeps of a form: lists of its values, uses and accesses, all together and point by point.
use Rattle.std.specs.Prelude.{◌≡◌, ℕ, suc, nat_eq, nat_le, length, Bool, List, [], ◌∷◌, ◌++◌, Option, Some, None, map, if◌then◌else◌}
use Rattle.std.specs.HashMap.{get}
use Rattle.std.specs.List.{flat_map, list_any}
use Rattle.std.specs.declared.vec.Vec.{Vec}
use Rattle.std.specs.declared.alloc.Global.{Global}
use Rattle.ssu_ir.specs.Tree.{Label, Node}
use Rattle.ssu_ir.specs.Points.{Names, PointKind, Entry, At, Point, points}
use Rattle.place_plan.specs.inner.Parts.{place_names}
use Rattle.place_plan.specs.inner.UseViews.{use_view}
use Rattle.place_plan.specs.Uses as pure
use Rattle.place_plan.specs.Uses.{values, uses, accesses, uses_of, is_used, place_values, place_roles, reads_at, writes_at}
use Rattle.bank_prog_form.specs.Columns.{Priced, each_point, origin_of, point_uses, place_words, dir_columns, stay_columns, ear_columns, for_eight, may_begin, has_bank, eight}
use Rattle.bank_prog_form.specs.Rows.{Line, covers, two_operands, pair_lines, stay_begins, word_begins, is_slot}
use Rattle.bank_prog_form.specs.declared.column.Column.TheVariants.{DirectWrite, Stay, EarlyWrite, First, Serve, ReadVia, WriteVia}
use Rattle.bank_prog_form.specs.declared.column.Service.{Service}
use Rattle.nv_base.specs.declared.term.Mem.{Mem}
use Rattle.bank_prog_form.specs.declared.form.Origin.{Origin}
use Rattle.bank_prog_form.specs.declared.form.Origin.TheVariants.{Parameter, Result, Fetched}
use Rattle.place_plan.specs.declared.uses.Role.{Role}
use Rattle.bank_prog_form.specs.declared.form.Value.{Value}
use Rattle.place_plan.specs.declared.uses.Use.{Use}
use Rattle.bank_prog_form.specs.declared.form.Access.{Access}
use Rattle.bank_prog_form.specs.declared.form.PointSummary.{PointSummary}
use Rattle.bank_prog_form.specs.declared.form.Tables.{Tables}

abbrev pub origin_view : Origin → pure.ValueOrigin
origin_view (Parameter l i) = pure.Parameter l i
origin_view Result = pure.Result
origin_view (Fetched m i) = pure.Fetched m i

abbrev pub value_view : Value → pure.Value
value_view v = record { point = v.point; var = v.var; origin = origin_view v.origin }

abbrev pub access_view : Access → pure.Access
access_view a = record { point = a.point; mem = a.mem; words = a.words }

-- what is kept of a point
pub record Part : Type 0 where
  pub point : ℕ
  pub words : ℕ
  pub two : Bool
  pub busy : Bool
  pub values : List pure.Value
  pub uses : List pure.Use
  pub reads : List pure.Access
  pub writes : List pure.Access

abbrev pub summary_view : PointSummary → Part
summary_view s = record {
  point = s.point;
  words = s.words;
  two = s.two;
  busy = s.busy;
  values = map value_view s.values.items;
  uses = map use_view s.uses.items;
  reads = map access_view s.reads.items;
  writes = map access_view s.writes.items;
}

abbrev pub part_of : ℕ → Point → Part
part_of k q = record {
  point = k;
  words = place_words q.place;
  two = two_operands (place_roles q.place);
  busy = nat_le 1 (length q.uses);
  values = place_values k q.place;
  uses = point_uses k q;
  reads = reads_at k q.place;
  writes = writes_at k q.place;
}

abbrev pub parts : List Label → List Part
parts labels = each_point (λ k q. part_of k q ∷ []) 0 (points labels)

-- columns and rows of a point, by what is kept of it
abbrev pub part_dirs : List Label → Part → List Priced
part_dirs labels p = flat_map (dir_columns labels p.words) p.uses

abbrev pub part_stays : List Label → Part → List Priced
part_stays labels p = flat_map (stay_columns labels p.words) p.values

abbrev pub part_ears : Part → List Priced
part_ears p = flat_map (ear_columns p.words) p.uses

abbrev pub part_pas_l : Part → List Priced
part_pas_l p = for_eight p.busy (ReadVia p.point)

abbrev pub part_pas_s : List Label → Part → List Priced
part_pas_s labels p = for_eight (list_any (λ v. is_used labels v.var) p.values) (WriteVia p.point)

abbrev pub part_operands : Part → List Line
part_operands p = if p.two then pair_lines p.point else []

abbrev pub part_begins : List Label → Part → List Line
part_begins labels p = flat_map (stay_begins labels p.words) p.values ++ flat_map (word_begins p.words) p.uses

-- the row of a beginning, of a value that stays and of a word that is put early
abbrev pub stay_begin : pure.Value → ℕ → List Line
stay_begin v f = covers (First v.point f ∷ []) (Stay v.var f ∷ []) ∷ []

abbrev pub word_begin : pure.Use → ℕ → List Line
word_begin u f = covers (First u.point f ∷ []) (DirectWrite u.point u.operand f ∷ EarlyWrite u.point u.operand f ∷ []) ∷ []

-- the row of a way to serve a use, where that is from a slot
abbrev pub service_read : pure.Use → Service → List Line
service_read u s = if is_slot s.from then covers (map (ReadVia u.point) eight) (Serve u.point u.operand s.from s.at ∷ []) ∷ [] else []

-- a register, where an access may begin there
abbrev pub beginning : Mem → ℕ → ℕ → List ℕ
beginning m n f = if may_begin m n f then f ∷ [] else []

-- a way to serve a use, where its value can be there
abbrev pub service_columns : Bool → pure.Use → Service → List Priced
service_columns fetched u s = if has_bank fetched s.from then (Serve u.point u.operand s.from s.at, s.cost) ∷ [] else []

-- how a value comes, where it is known
abbrev pub known_sort : Option Origin → pure.ValueOrigin
known_sort (Some s) = origin_view s
known_sort None = pure.Result

-- the uses of a value, where it has any
abbrev pub known_uses : Option (Vec Use Global) → List pure.Use
known_uses (Some us) = map use_view us.items
known_uses None = []

-- ---- how the tables are made

abbrev pub at_node : Node → PointKind
at_node n = At n

abbrev pub at_entry : ℕ → List ℕ → PointKind
at_entry l xs = Entry l xs

abbrev pub node_words : Node → ℕ
node_words n = place_words (At n)

-- one use
abbrev pub use_of : Names → ℕ → ℕ → ℕ → pure.Role → List pure.Use
use_of of k i x role = record { point = k; operand = i; value = of x; role = role } ∷ []

-- the uses of these names, from operand i and word j on
abbrev pub uses_from : Names → ℕ → ℕ → (ℕ → pure.Role) → ℕ → List ℕ → List pure.Use
uses_from of k i role j [] = []
uses_from of k i role j (x ∷ xs) = use_of of k i x (role j) ++ uses_from of k (suc i) role (suc j) xs

abbrev pub one_access : ℕ → Mem → ℕ → List pure.Access
one_access k m n = record { point = k; mem = m; words = n } ∷ []

-- what is kept of a place
abbrev pub part_at : Names → ℕ → PointKind → Part
part_at of k q = record {
  point = k;
  words = place_words q;
  two = two_operands (place_roles q);
  busy = nat_le 1 (length (place_names q));
  values = place_values k q;
  uses = pure.uses_at k 0 (map of (place_names q)) (place_roles q);
  reads = reads_at k q;
  writes = writes_at k q;
}

abbrev pub parts_at : Names → ℕ → PointKind → List Part
parts_at of k q = part_at of k q ∷ []

abbrev pub part_values : Part → List pure.Value
part_values p = p.values

abbrev pub part_uses : Part → List pure.Use
part_uses p = p.uses

abbrev pub part_accesses : Part → List pure.Access
part_accesses p = p.reads ++ p.writes

-- how a value comes, where it is found
abbrev pub origin_found : Option Origin → Option pure.ValueOrigin
origin_found (Some s) = Some (origin_view s)
origin_found None = None

-- it is noted where it wasn't found
abbrev pub origin_noted : Option pure.ValueOrigin → pure.Value → ℕ → Option pure.ValueOrigin
origin_noted (Some s) v x = Some s
origin_noted None v x = if nat_eq v.var x then Some v.origin else None

-- the use, where it is one of this value
abbrev pub used_by : ℕ → pure.Use → List pure.Use
used_by x u = if nat_eq u.value x then u ∷ [] else []

-- all that is kept of a form is so
pub record AreTables (labels : List Label) (f : Tables) : Type 0 where
  pub summaries : map summary_view f.summaries.items ≡ parts labels
  pub values : map value_view f.values.items ≡ values labels
  pub uses : map use_view f.uses.items ≡ uses labels
  pub accesses : map access_view f.accesses.items ≡ accesses labels
  pub origins : (x : ℕ) → known_sort (get nat_eq f.origins x) ≡ origin_of labels x
  pub users : (x : ℕ) → known_uses (get nat_eq f.users x) ≡ uses_of labels x
