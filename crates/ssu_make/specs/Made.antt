-- The single use form of a tree. Each variable x has consecutive names from `base x` on: the use after which k uses follow on the fullest path has
-- the name `base x + k`. A value that is used twice or more has the name after those of its clones, and its clones directly after its
-- definition. Literals are made directly before their node, under new names, which are numbered from the end of the tree upwards.
use Rattle.std.specs.Prelude.{◌≡◌, ℕ, ◌+◌, ◌*◌, ◌/◌, ◌%◌, ◌<◌, ◌≤◌, max, nat_lt, Bool, true, false, ◌⊎◌, ⊤, List, [], ◌∷◌, ◌++◌, map, drop, slice_index, if◌then◌else◌}
use Rattle.std.specs.List.{range_with_len}
use Rattle.nv_base.specs.declared.term.Mem.{Mem}
use Rattle.nv_base.specs.declared.term.Cmp.{Cmp}
use Rattle.nv_base.specs.declared.term.Atom.{Atom}
use Rattle.nv_base.specs.declared.term.Atom.TheVariants.{Var, Lit}
use Rattle.nv_base.specs.declared.term.Primitive.{Primitive}
use Rattle.nv_base.specs.declared.term.Primitive.TheVariants.{Same, Una as UnaOf, Bin as BinOf}
use Rattle.nv_base.specs.declared.term.Bin.TheVariants.{Or}
use Rattle.nv_base.specs.Sets.{is_in}
use Rattle.nv_base.specs.Words.{word}
use Rattle.flow_ir.specs.Tree.{Tree, Let, Read, Write, If, Jump, Halt}
use Rattle.flow_ir.specs.Tree as flow
use Rattle.flow_ir.specs.Formed.{defined}
use Rattle.ssu_ir.specs.Tree as ssu
use Rattle.ssu_ir.specs.Single.{is_narrow}
use Rattle.ssu_make.specs.Uses.{Counts, occurs, operands, outside, uses, all_uses}

-- ---- literals

abbrev pub high : ℕ → ℕ
high w = w / 65536 * 65536

abbrev pub low : ℕ → ℕ
low w = w % 65536

-- a word under a new name before a tree: a wide one by its halves
abbrev pub literal : Bool → ℕ → ℕ → ssu.Tree → ssu.Tree
literal true n w t = ssu.Do (ssu.Lit n w) t
literal false n w t = ssu.Do (ssu.Lit n (high w)) (ssu.Do (ssu.Lit (n + 1) (low w)) (ssu.Do (ssu.Bin (n + 2) Or n (n + 1)) t))

-- how many names it takes, and the last of them, which is the word's
abbrev pub names_taken : Bool → ℕ
names_taken true = 1
names_taken false = 3

abbrev pub last_taken : Bool → ℕ → ℕ
last_taken true n = n
last_taken false n = n + 2

-- ---- operands

abbrev pub taken : Atom → ℕ
taken (Var x) = 0
taken (Lit v) = names_taken (is_narrow (word v))

abbrev pub all_taken : List Atom → ℕ
all_taken [] = 0
all_taken (a ∷ as') = taken a + all_taken as'

-- the name of an operand, where so many uses of each variable follow
abbrev pub name : Counts → Counts → ℕ → Atom → ℕ
name base r n (Var x) = base x + r x
name base r n (Lit v) = last_taken (is_narrow (word v)) n

abbrev pub names : Counts → Counts → ℕ → List Atom → List ℕ
names base r n [] = []
names base r n (a ∷ as') = name base (λ y. occurs as' y + r y) (n + all_taken as') a ∷ names base r n as'

abbrev pub atom_literal : ℕ → Atom → ssu.Tree → ssu.Tree
atom_literal n (Var x) t = t
atom_literal n (Lit v) t = literal (is_narrow (word v)) n (word v) t

-- the literals among operands, before a tree
abbrev pub literals : ℕ → List Atom → ssu.Tree → ssu.Tree
literals n [] t = t
literals n (a ∷ as') t = atom_literal (n + all_taken as') a (literals n as' t)

-- ---- values and their clones

abbrev pub value : Counts → Counts → ℕ → ℕ
value base r x = if nat_lt 1 (r x) then base x + r x else base x

abbrev pub clone_step : Bool → ℕ → ℕ → ssu.Tree → ssu.Tree
clone_step true first n t = ssu.Do (ssu.Clone (range_with_len first n) (first + n)) t
clone_step false first n t = t

-- the clones of values, before a tree
abbrev pub clones : Counts → Counts → List ℕ → ssu.Tree → ssu.Tree
clones base r [] t = t
clones base r (x ∷ xs) t = clone_step (nat_lt 1 (r x)) (base x) (r x) (clones base r xs t)

-- ---- trees

-- a primitive by the names of its operands
abbrev pub prim_step : ℕ → Primitive → List ℕ → ssu.Step
prim_step x (Same a) ys = ssu.Bin x Or (slice_index ys 0) (slice_index ys 1)
prim_step x (UnaOf op a) ys = ssu.Una x op (slice_index ys 0)
prim_step x (BinOf op a b) ys = ssu.Bin x op (slice_index ys 0) (slice_index ys 1)

-- how many new names a tree takes
abbrev pub spent : Tree → ℕ
spent (Let x p t) = spent t + all_taken (operands p)
spent (Read m xs a t) = spent t + all_taken (a ∷ [])
spent (Write m a bs t) = spent t + all_taken (a ∷ bs)
spent (If c a b t u) = spent u + spent t + all_taken (a ∷ b ∷ [])
spent (Jump l bs) = all_taken bs
spent (Halt e bs) = all_taken bs

-- the more often used of two
abbrev pub most : Counts → Counts → Counts
most r s y = max (r y) (s y)

abbrev pub made_let : Counts → ℕ → ℕ → Primitive → Counts → ssu.Tree → ssu.Tree
made_let base n x p r t = literals n (operands p) (ssu.Do (prim_step (value base r x) p (names base (outside (x ∷ []) r) n (operands p))) (clones base r (x ∷ []) t))

abbrev pub made_read : Counts → ℕ → Mem → List ℕ → Atom → Counts → ssu.Tree → ssu.Tree
made_read base n m xs a r t = literals n (a ∷ []) (ssu.Do (ssu.Read m (map (value base r) xs) (slice_index (names base (outside xs r) n (a ∷ [])) 0)) (clones base r xs t))

abbrev pub made_write : Counts → ℕ → Mem → Atom → List Atom → Counts → ssu.Tree → ssu.Tree
made_write base n m a bs r t = literals n (a ∷ bs) (ssu.Do (ssu.Write m (slice_index (names base r n (a ∷ bs)) 0) (drop 1 (names base r n (a ∷ bs)))) t)

abbrev pub made_if : Counts → ℕ → Cmp → Atom → Atom → Counts → ssu.Tree → ssu.Tree → ssu.Tree
made_if base n c a b r t u = literals n (a ∷ b ∷ []) (ssu.If c (slice_index (names base r n (a ∷ b ∷ [])) 0) (slice_index (names base r n (a ∷ b ∷ [])) 1) t u)

abbrev pub made_jump : Counts → ℕ → ℕ → List Atom → ssu.Tree
made_jump base n l bs = literals n bs (ssu.End (ssu.Jump l (names base (λ y. 0) n bs)))

abbrev pub made_halt : Counts → ℕ → ℕ → List Atom → ssu.Tree
made_halt base n e bs = literals n bs (ssu.End (ssu.Halt e (names base (λ y. 0) n bs)))

-- a tree, whose new names begin at n
abbrev pub made : Counts → ℕ → Tree → ssu.Tree
made base n (Let x p t) = made_let base (n + spent t) x p (uses t) (made base n t)
made base n (Read m xs a t) = made_read base (n + spent t) m xs a (uses t) (made base n t)
made base n (Write m a bs t) = made_write base (n + spent t) m a bs (uses t) (made base n t)
made base n (If c a b t u) = made_if base (n + (spent u + spent t)) c a b (most (uses t) (uses u)) (made base (n + spent u) t) (made base n u)
made base n (Jump l bs) = made_jump base n l bs
made base n (Halt e bs) = made_halt base n e bs

abbrev pub made_label : Counts → ℕ → flow.Label → ssu.Label
made_label base n l = record {
  params = map (value base (uses l.body)) l.params;
  body = clones base (uses l.body) l.params (made base n l.body);
}

-- ---- where the names of variables lie

-- The names of each of these variables, and of its value, lie from c on and below d, where it stands at most `size` times as an operand; those of
-- different ones are apart.
pub record Laid (base size : Counts) (c d : ℕ) (xs : List ℕ) : Type 0 where
  pub start : (x : ℕ) → is_in x xs ≡ true → c ≤ base x
  pub below : (x : ℕ) → is_in x xs ≡ true → base x + size x < d
  pub apart : (x y : ℕ) → is_in x xs ≡ true → is_in y xs ≡ true → (x ≡ y → ⊥) → (base x + size x < base y) ⊎ (base y + size y < base x)

-- the variables of a label
abbrev pub variables : flow.Label → List ℕ
variables l = l.params ++ defined l.body

-- what becomes of one label, where new names begin at c and go on at d
pub record IsMade (c d : ℕ) (l : flow.Label) (s : ssu.Label) : Type 0 where
  pub base : Counts
  pub first : ℕ
  pub after : c ≤ first
  pub laid : Laid base (all_uses l.body) c first (variables l)
  pub is : s ≡ made_label base first l
  pub next : d ≡ first + spent l.body

-- labels in order, each under new names
abbrev pub AllMade : ℕ → List flow.Label → List ssu.Label → Type 0
AllMade c [] [] = ⊤
AllMade c [] (s ∷ ss) = ⊥
AllMade c (l ∷ ls) [] = ⊥
AllMade c (l ∷ ls) (s ∷ ss) = (d : ℕ) × IsMade c d l s × AllMade d ls ss
