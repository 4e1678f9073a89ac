-- What formed code is made of: one lemma a kind of node.
use Rattle.std.proofs.Common.{◌≡◌, ℕ, ◌==◌, Bool, true, false, ◌≤◌, nat_le, ◌&&◌, List, ◌∷◌, ◌++◌, Option, Some, None, length, slice_get, refl}
use Rattle.std.proofs.lemmas.Bool.{and_parts, eqb-true, leb-true, false≢true}
use Rattle.nv_base.specs.declared.term.Atom.{Atom}
use Rattle.nv_base.specs.declared.term.Mem.{Mem}
use Rattle.nv_base.specs.declared.term.Primitive.{Primitive}
use Rattle.nv_base.specs.Access.{is_known, all_known, is_primitive, can_move, is_address}
use Rattle.flat_ir.specs.declared.flat.Flat.{Flat}
use Rattle.flat_ir.specs.declared.flat.Flat.TheVariants.{Let', Fetch', Store', If', Bind', Call, Raise, Try', Give}
use Rattle.flat_ir.specs.declared.flat.FlatFun.{FlatFun}
use Rattle.flat_ir.specs.Formed.{may_stand, can_call, is_formed}

pub record LetParts (funs : List FlatFun) (own : ℕ) (tail : Bool) (n : ℕ) (known : List ℕ) (x : ℕ) (a : Primitive) (t : Flat) : Type 0 where
  pub primitive : is_primitive known a ≡ true
  pub rest : is_formed funs own tail n (x ∷ known) t ≡ true

pub let-parts : (funs : List FlatFun) (own : ℕ) (tail : Bool) (n : ℕ) (known : List ℕ) (x : ℕ) (a : Primitive) (q : _) (t : Flat) → is_formed funs own tail n known (Let' x a q t) ≡ true → LetParts funs own tail n known x a t
let-parts funs own tail n known x a q t e =
    let p = and_parts (is_primitive known a) (is_formed funs own tail n (x ∷ known) t) e in
    record { primitive = p.0; rest = p.1 }

pub record FetchParts (funs : List FlatFun) (own : ℕ) (tail : Bool) (n : ℕ) (known : List ℕ) (m : Mem) (xs : List ℕ) (a : Atom) (t : Flat) : Type 0 where
  pub operand : is_known known a ≡ true
  pub moves : can_move m (length xs) ≡ true
  pub address : is_address m a (length xs) ≡ true
  pub rest : is_formed funs own tail n (xs ++ known) t ≡ true

pub fetch-parts : (funs : List FlatFun) (own : ℕ) (tail : Bool) (n : ℕ) (known : List ℕ) (m : Mem) (xs : _) (a : Atom) (q : _) (t : Flat) → is_formed funs own tail n known (Fetch' m xs a q t) ≡ true → FetchParts funs own tail n known m xs.items a t
fetch-parts funs own tail n known m xs a q t e =
    let move = can_move m (length xs.items) in
    let address = is_address m a (length xs.items) in
    let rest = is_formed funs own tail n (xs.items ++ known) t in
    let p1 = and_parts (is_known known a) (move && (address && rest)) e in
    let p2 = and_parts move (address && rest) p1.1 in
    let p3 = and_parts address rest p2.1 in
    record { operand = p1.0; moves = p2.0; address = p3.0; rest = p3.1 }

pub record StoreParts (funs : List FlatFun) (own : ℕ) (tail : Bool) (n : ℕ) (known : List ℕ) (m : Mem) (a : Atom) (bs : List Atom) (t : Flat) : Type 0 where
  pub operand : is_known known a ≡ true
  pub operands : all_known known bs ≡ true
  pub moves : can_move m (length bs) ≡ true
  pub address : is_address m a (length bs) ≡ true
  pub rest : is_formed funs own tail n known t ≡ true

pub store-parts : (funs : List FlatFun) (own : ℕ) (tail : Bool) (n : ℕ) (known : List ℕ) (m : Mem) (a : Atom) (bs : _) (q : _) (t : Flat) → is_formed funs own tail n known (Store' m a bs q t) ≡ true → StoreParts funs own tail n known m a bs.items t
store-parts funs own tail n known m a bs q t e =
    let move = can_move m (length bs.items) in
    let address = is_address m a (length bs.items) in
    let rest = is_formed funs own tail n known t in
    let p1 = and_parts (is_known known a) (all_known known bs.items && (move && (address && rest))) e in
    let p2 = and_parts (all_known known bs.items) (move && (address && rest)) p1.1 in
    let p3 = and_parts move (address && rest) p2.1 in
    let p4 = and_parts address rest p3.1 in
    record { operand = p1.0; operands = p2.0; moves = p3.0; address = p4.0; rest = p4.1 }

pub record IfParts (funs : List FlatFun) (own : ℕ) (tail : Bool) (n : ℕ) (known : List ℕ) (a b : Atom) (t u : Flat) : Type 0 where
  pub left : is_known known a ≡ true
  pub right : is_known known b ≡ true
  pub first : is_formed funs own tail n known t ≡ true
  pub second : is_formed funs own tail n known u ≡ true

pub if-parts : (funs : List FlatFun) (own : ℕ) (tail : Bool) (n : ℕ) (known : List ℕ) (c : _) (a b : Atom) (q : _) (t : Flat) (r : _) (u : Flat) → is_formed funs own tail n known (If' c a b q t r u) ≡ true → IfParts funs own tail n known a b t u
if-parts funs own tail n known c a b q t r u e =
    let first = is_formed funs own tail n known t in
    let second = is_formed funs own tail n known u in
    let p1 = and_parts (is_known known a) (is_known known b && (first && second)) e in
    let p2 = and_parts (is_known known b) (first && second) p1.1 in
    let p3 = and_parts first second p2.1 in
    record { left = p1.0; right = p2.0; first = p3.0; second = p3.1 }

pub record BindParts (funs : List FlatFun) (own : ℕ) (tail : Bool) (n : ℕ) (known xs : List ℕ) (t u : Flat) : Type 0 where
  pub first : is_formed funs own false (length xs) known t ≡ true
  pub rest : is_formed funs own tail n (xs ++ known) u ≡ true

pub bind-parts : (funs : List FlatFun) (own : ℕ) (tail : Bool) (n : ℕ) (known : List ℕ) (xs : _) (q : _) (t : Flat) (r : _) (u : Flat) → is_formed funs own tail n known (Bind' xs q t r u) ≡ true → BindParts funs own tail n known xs.items t u
bind-parts funs own tail n known xs q t r u e =
    let p = and_parts (is_formed funs own false (length xs.items) known t) (is_formed funs own tail n (xs.items ++ known) u) e in
    record { first = p.0; rest = p.1 }

-- the function that is called
pub record CallParts (funs : List FlatFun) (own : ℕ) (tail : Bool) (n : ℕ) (known : List ℕ) (f : ℕ) (bs : List Atom) : Type 0 where
  pub operands : all_known known bs ≡ true
  pub function : FlatFun
  pub there : slice_get funs f ≡ Some function
  pub params : length function.params.items ≡ length bs
  pub results : function.results ≡ n
  pub stands : may_stand tail own function.group ≡ true

-- a call that is formed is of a function that takes and gives as many words as are wanted
pub called-parts : (funs : List FlatFun) (own : ℕ) (tail : Bool) (n : ℕ) (known : List ℕ) (f : ℕ) (bs : List Atom) (o : Option FlatFun) → slice_get funs f ≡ o → all_known known bs ≡ true → can_call own tail (length bs) n o ≡ true
    → CallParts funs own tail n known f bs
called-parts funs own tail n known f bs (Some g) s operands e =
    let p1 = and_parts (length g.params.items == length bs) ((g.results == n) && may_stand tail own g.group) e in
    let p2 = and_parts (g.results == n) (may_stand tail own g.group) p1.1 in
    record { operands = operands; function = g; there = s; params = eqb-true (length g.params.items) (length bs) p1.0; results = eqb-true g.results n p2.0; stands = p2.1 }
called-parts funs own tail n known f bs None s operands e = absurd (false≢true e)

pub call-parts : (funs : List FlatFun) (own : ℕ) (tail : Bool) (n : ℕ) (known : List ℕ) (f : ℕ) (bs : _) → is_formed funs own tail n known (Call f bs) ≡ true → CallParts funs own tail n known f bs.items
call-parts funs own tail n known f bs e =
    let p = and_parts (all_known known bs.items) (can_call own tail (length bs.items) n (slice_get funs f)) e in
    called-parts funs own tail n known f bs.items (slice_get funs f) refl p.0 p.1

pub record RaiseParts (known : List ℕ) (k : ℕ) (bs : List Atom) : Type 0 where
  pub operands : all_known known bs ≡ true
  pub number : 1 ≤ k
  pub words : length bs ≤ 8

pub raise-parts : (funs : List FlatFun) (own : ℕ) (tail : Bool) (n : ℕ) (known : List ℕ) (k : ℕ) (bs : _) → is_formed funs own tail n known (Raise k bs) ≡ true → RaiseParts known k bs.items
raise-parts funs own tail n known k bs e =
    let p1 = and_parts (all_known known bs.items) (nat_le 1 k && nat_le (length bs.items) 8) e in
    let p2 = and_parts (nat_le 1 k) (nat_le (length bs.items) 8) p1.1 in
    record { operands = p1.0; number = leb-true 1 k p2.0; words = leb-true (length bs.items) 8 p2.1 }

pub record TryParts (funs : List FlatFun) (own : ℕ) (tail : Bool) (n : ℕ) (known : List ℕ) (k : ℕ) (xs : List ℕ) (t u : Flat) : Type 0 where
  pub first : is_formed funs own false n known t ≡ true
  pub number : 1 ≤ k
  pub handler : is_formed funs own tail n (xs ++ known) u ≡ true

pub try-parts : (funs : List FlatFun) (own : ℕ) (tail : Bool) (n : ℕ) (known : List ℕ) (q : _) (t : Flat) (k : ℕ) (xs : _) (r : _) (u : Flat) → is_formed funs own tail n known (Try' q t k xs r u) ≡ true → TryParts funs own tail n known k xs.items t u
try-parts funs own tail n known q t k xs r u e =
    let first = is_formed funs own false n known t in
    let handler = is_formed funs own tail n (xs.items ++ known) u in
    let p1 = and_parts first (nat_le 1 k && handler) e in
    let p2 = and_parts (nat_le 1 k) handler p1.1 in
    record { first = p1.0; number = leb-true 1 k p2.0; handler = p2.1 }

pub record GiveParts (n : ℕ) (known : List ℕ) (bs : List Atom) : Type 0 where
  pub operands : all_known known bs ≡ true
  pub words : length bs ≡ n

pub give-parts : (funs : List FlatFun) (own : ℕ) (tail : Bool) (n : ℕ) (known : List ℕ) (bs : _) → is_formed funs own tail n known (Give bs) ≡ true → GiveParts n known bs.items
give-parts funs own tail n known bs e =
    let p = and_parts (all_known known bs.items) (length bs.items == n) e in
    record { operands = p.0; words = eqb-true (length bs.items) n p.1 }
