-- Columns are compared field by field.
use Rattle.std.proofs.Common.{◌≡◌, ℕ, suc, ◌+◌, Bool, true, false, cond, if◌then◌else◌, ◌&&◌, nat_eq, List, [], ◌∷◌, ◌++◌, length, Option, Some, None, is_some, Bor, refl, sym, ap, ◌∙◌, arith}
use Rattle.std.proofs.Math.Path.{fun_ext}
use Rattle.std.specs.Option.{option_copied}
use Rattle.std.proofs.lemmas.Bool.{and_parts, false≢true}
use Rattle.nv_base.proofs.Sets.{same-number}
use Rattle.bank_prog_form.specs.declared.column.Bank.{Bank}
use Rattle.bank_prog_form.specs.declared.column.Bank.TheVariants.{A, B, M, T, L, A15, W}
use Rattle.bank_prog_form.specs.declared.column.Column.{Column}
use Rattle.bank_prog_form.specs.declared.column.Column.TheVariants.{Def, DirectWrite, Fill, Stay, EarlyWrite, First, Serve, ReadVia, WriteVia}
use Rattle.bank_prog_form.specs.Program.{same_bank, same_column, number_in}
use Rattle.bank_prog_form.specs.inner.Adds.{either}
use Rattle.bank_prog_form.specs.contracts.column.BankPartialEq.TheImpl as bank
use Rattle.bank_prog_form.specs.contracts.column.ColumnPartialEq.TheImpl as column

alike-bank : (h j : Bank) → bank.eq-value.it h j ≡ same_bank h j
alike-bank A A = refl
alike-bank A B = refl
alike-bank A M = refl
alike-bank A T = refl
alike-bank A L = refl
alike-bank A A15 = refl
alike-bank A W = refl
alike-bank B A = refl
alike-bank B B = refl
alike-bank B M = refl
alike-bank B T = refl
alike-bank B L = refl
alike-bank B A15 = refl
alike-bank B W = refl
alike-bank M A = refl
alike-bank M B = refl
alike-bank M M = refl
alike-bank M T = refl
alike-bank M L = refl
alike-bank M A15 = refl
alike-bank M W = refl
alike-bank T A = refl
alike-bank T B = refl
alike-bank T M = refl
alike-bank T T = refl
alike-bank T L = refl
alike-bank T A15 = refl
alike-bank T W = refl
alike-bank L A = refl
alike-bank L B = refl
alike-bank L M = refl
alike-bank L T = refl
alike-bank L L = refl
alike-bank L A15 = refl
alike-bank L W = refl
alike-bank A15 A = refl
alike-bank A15 B = refl
alike-bank A15 M = refl
alike-bank A15 T = refl
alike-bank A15 L = refl
alike-bank A15 A15 = refl
alike-bank A15 W = refl
alike-bank W A = refl
alike-bank W B = refl
alike-bank W M = refl
alike-bank W T = refl
alike-bank W L = refl
alike-bank W A15 = refl
alike-bank W W = refl

pub alike : (c d : Column) → column.eq-value.it c d ≡ same_column c d
alike (Def x h) (Def x' h') = ap (λ b. nat_eq x x' && b) (alike-bank h h')
alike (Def x h) (DirectWrite k' i' f') = refl
alike (Def x h) (Fill x' h') = refl
alike (Def x h) (Stay x' f') = refl
alike (Def x h) (EarlyWrite k' i' f') = refl
alike (Def x h) (First k' f') = refl
alike (Def x h) (Serve k' i' h' p') = refl
alike (Def x h) (ReadVia k' r') = refl
alike (Def x h) (WriteVia k' r') = refl
alike (DirectWrite k i f) (Def x' h') = refl
alike (DirectWrite k i f) (DirectWrite k' i' f') = refl
alike (DirectWrite k i f) (Fill x' h') = refl
alike (DirectWrite k i f) (Stay x' f') = refl
alike (DirectWrite k i f) (EarlyWrite k' i' f') = refl
alike (DirectWrite k i f) (First k' f') = refl
alike (DirectWrite k i f) (Serve k' i' h' p') = refl
alike (DirectWrite k i f) (ReadVia k' r') = refl
alike (DirectWrite k i f) (WriteVia k' r') = refl
alike (Fill x h) (Def x' h') = refl
alike (Fill x h) (DirectWrite k' i' f') = refl
alike (Fill x h) (Fill x' h') = ap (λ b. nat_eq x x' && b) (alike-bank h h')
alike (Fill x h) (Stay x' f') = refl
alike (Fill x h) (EarlyWrite k' i' f') = refl
alike (Fill x h) (First k' f') = refl
alike (Fill x h) (Serve k' i' h' p') = refl
alike (Fill x h) (ReadVia k' r') = refl
alike (Fill x h) (WriteVia k' r') = refl
alike (Stay x f) (Def x' h') = refl
alike (Stay x f) (DirectWrite k' i' f') = refl
alike (Stay x f) (Fill x' h') = refl
alike (Stay x f) (Stay x' f') = refl
alike (Stay x f) (EarlyWrite k' i' f') = refl
alike (Stay x f) (First k' f') = refl
alike (Stay x f) (Serve k' i' h' p') = refl
alike (Stay x f) (ReadVia k' r') = refl
alike (Stay x f) (WriteVia k' r') = refl
alike (EarlyWrite k i f) (Def x' h') = refl
alike (EarlyWrite k i f) (DirectWrite k' i' f') = refl
alike (EarlyWrite k i f) (Fill x' h') = refl
alike (EarlyWrite k i f) (Stay x' f') = refl
alike (EarlyWrite k i f) (EarlyWrite k' i' f') = refl
alike (EarlyWrite k i f) (First k' f') = refl
alike (EarlyWrite k i f) (Serve k' i' h' p') = refl
alike (EarlyWrite k i f) (ReadVia k' r') = refl
alike (EarlyWrite k i f) (WriteVia k' r') = refl
alike (First k f) (Def x' h') = refl
alike (First k f) (DirectWrite k' i' f') = refl
alike (First k f) (Fill x' h') = refl
alike (First k f) (Stay x' f') = refl
alike (First k f) (EarlyWrite k' i' f') = refl
alike (First k f) (First k' f') = refl
alike (First k f) (Serve k' i' h' p') = refl
alike (First k f) (ReadVia k' r') = refl
alike (First k f) (WriteVia k' r') = refl
alike (Serve k i h p) (Def x' h') = refl
alike (Serve k i h p) (DirectWrite k' i' f') = refl
alike (Serve k i h p) (Fill x' h') = refl
alike (Serve k i h p) (Stay x' f') = refl
alike (Serve k i h p) (EarlyWrite k' i' f') = refl
alike (Serve k i h p) (First k' f') = refl
alike (Serve k i h p) (Serve k' i' h' p') = ap (λ b. nat_eq k k' && (nat_eq i i' && (b && bank.eq-value.it p p'))) (alike-bank h h') ∙ ap (λ b. nat_eq k k' && (nat_eq i i' && (same_bank h h' && b))) (alike-bank p p')
alike (Serve k i h p) (ReadVia k' r') = refl
alike (Serve k i h p) (WriteVia k' r') = refl
alike (ReadVia k r) (Def x' h') = refl
alike (ReadVia k r) (DirectWrite k' i' f') = refl
alike (ReadVia k r) (Fill x' h') = refl
alike (ReadVia k r) (Stay x' f') = refl
alike (ReadVia k r) (EarlyWrite k' i' f') = refl
alike (ReadVia k r) (First k' f') = refl
alike (ReadVia k r) (Serve k' i' h' p') = refl
alike (ReadVia k r) (ReadVia k' r') = refl
alike (ReadVia k r) (WriteVia k' r') = refl
alike (WriteVia k r) (Def x' h') = refl
alike (WriteVia k r) (DirectWrite k' i' f') = refl
alike (WriteVia k r) (Fill x' h') = refl
alike (WriteVia k r) (Stay x' f') = refl
alike (WriteVia k r) (EarlyWrite k' i' f') = refl
alike (WriteVia k r) (First k' f') = refl
alike (WriteVia k r) (Serve k' i' h' p') = refl
alike (WriteVia k r) (ReadVia k' r') = refl
alike (WriteVia k r) (WriteVia k' r') = refl

-- a map is looked up by this comparison
pub compare : (c : Column) → column.eq-value.it c ≡ same_column c
compare c = fun_ext {f = column.eq-value.it c} {g = same_column c} (λ d. alike c d)

-- ---- columns that compare alike are one

pub bank-true : (h j : Bank) → same_bank h j ≡ true → h ≡ j
bank-true A A e = refl
bank-true A B e = absurd (false≢true e)
bank-true A M e = absurd (false≢true e)
bank-true A T e = absurd (false≢true e)
bank-true A L e = absurd (false≢true e)
bank-true A A15 e = absurd (false≢true e)
bank-true A W e = absurd (false≢true e)
bank-true B A e = absurd (false≢true e)
bank-true B B e = refl
bank-true B M e = absurd (false≢true e)
bank-true B T e = absurd (false≢true e)
bank-true B L e = absurd (false≢true e)
bank-true B A15 e = absurd (false≢true e)
bank-true B W e = absurd (false≢true e)
bank-true M A e = absurd (false≢true e)
bank-true M B e = absurd (false≢true e)
bank-true M M e = refl
bank-true M T e = absurd (false≢true e)
bank-true M L e = absurd (false≢true e)
bank-true M A15 e = absurd (false≢true e)
bank-true M W e = absurd (false≢true e)
bank-true T A e = absurd (false≢true e)
bank-true T B e = absurd (false≢true e)
bank-true T M e = absurd (false≢true e)
bank-true T T e = refl
bank-true T L e = absurd (false≢true e)
bank-true T A15 e = absurd (false≢true e)
bank-true T W e = absurd (false≢true e)
bank-true L A e = absurd (false≢true e)
bank-true L B e = absurd (false≢true e)
bank-true L M e = absurd (false≢true e)
bank-true L T e = absurd (false≢true e)
bank-true L L e = refl
bank-true L A15 e = absurd (false≢true e)
bank-true L W e = absurd (false≢true e)
bank-true A15 A e = absurd (false≢true e)
bank-true A15 B e = absurd (false≢true e)
bank-true A15 M e = absurd (false≢true e)
bank-true A15 T e = absurd (false≢true e)
bank-true A15 L e = absurd (false≢true e)
bank-true A15 A15 e = refl
bank-true A15 W e = absurd (false≢true e)
bank-true W A e = absurd (false≢true e)
bank-true W B e = absurd (false≢true e)
bank-true W M e = absurd (false≢true e)
bank-true W T e = absurd (false≢true e)
bank-true W L e = absurd (false≢true e)
bank-true W A15 e = absurd (false≢true e)
bank-true W W e = refl

pub column-true : (c d : Column) → same_column c d ≡ true → c ≡ d
column-true (Def x h) (Def x' h') e = let m = and_parts (nat_eq x x') (same_bank h h') e in ap (λ z. Def z h) (same-number x x' m.0) ∙ ap (λ z. Def x' z) (bank-true h h' m.1)
column-true (Def x h) (DirectWrite k' i' f') e = absurd (false≢true e)
column-true (Def x h) (Fill x' h') e = absurd (false≢true e)
column-true (Def x h) (Stay x' f') e = absurd (false≢true e)
column-true (Def x h) (EarlyWrite k' i' f') e = absurd (false≢true e)
column-true (Def x h) (First k' f') e = absurd (false≢true e)
column-true (Def x h) (Serve k' i' h' p') e = absurd (false≢true e)
column-true (Def x h) (ReadVia k' r') e = absurd (false≢true e)
column-true (Def x h) (WriteVia k' r') e = absurd (false≢true e)
column-true (DirectWrite k i f) (Def x' h') e = absurd (false≢true e)
column-true (DirectWrite k i f) (DirectWrite k' i' f') e =
    let m = and_parts (nat_eq k k') (nat_eq i i' && nat_eq f f') e in
    let n = and_parts (nat_eq i i') (nat_eq f f') m.1 in
    ap (λ z. DirectWrite z i f) (same-number k k' m.0) ∙ ap (λ z. DirectWrite k' z f) (same-number i i' n.0) ∙ ap (λ z. DirectWrite k' i' z) (same-number f f' n.1)
column-true (DirectWrite k i f) (Fill x' h') e = absurd (false≢true e)
column-true (DirectWrite k i f) (Stay x' f') e = absurd (false≢true e)
column-true (DirectWrite k i f) (EarlyWrite k' i' f') e = absurd (false≢true e)
column-true (DirectWrite k i f) (First k' f') e = absurd (false≢true e)
column-true (DirectWrite k i f) (Serve k' i' h' p') e = absurd (false≢true e)
column-true (DirectWrite k i f) (ReadVia k' r') e = absurd (false≢true e)
column-true (DirectWrite k i f) (WriteVia k' r') e = absurd (false≢true e)
column-true (Fill x h) (Def x' h') e = absurd (false≢true e)
column-true (Fill x h) (DirectWrite k' i' f') e = absurd (false≢true e)
column-true (Fill x h) (Fill x' h') e = let m = and_parts (nat_eq x x') (same_bank h h') e in ap (λ z. Fill z h) (same-number x x' m.0) ∙ ap (λ z. Fill x' z) (bank-true h h' m.1)
column-true (Fill x h) (Stay x' f') e = absurd (false≢true e)
column-true (Fill x h) (EarlyWrite k' i' f') e = absurd (false≢true e)
column-true (Fill x h) (First k' f') e = absurd (false≢true e)
column-true (Fill x h) (Serve k' i' h' p') e = absurd (false≢true e)
column-true (Fill x h) (ReadVia k' r') e = absurd (false≢true e)
column-true (Fill x h) (WriteVia k' r') e = absurd (false≢true e)
column-true (Stay x f) (Def x' h') e = absurd (false≢true e)
column-true (Stay x f) (DirectWrite k' i' f') e = absurd (false≢true e)
column-true (Stay x f) (Fill x' h') e = absurd (false≢true e)
column-true (Stay x f) (Stay x' f') e = let m = and_parts (nat_eq x x') (nat_eq f f') e in ap (λ z. Stay z f) (same-number x x' m.0) ∙ ap (λ z. Stay x' z) (same-number f f' m.1)
column-true (Stay x f) (EarlyWrite k' i' f') e = absurd (false≢true e)
column-true (Stay x f) (First k' f') e = absurd (false≢true e)
column-true (Stay x f) (Serve k' i' h' p') e = absurd (false≢true e)
column-true (Stay x f) (ReadVia k' r') e = absurd (false≢true e)
column-true (Stay x f) (WriteVia k' r') e = absurd (false≢true e)
column-true (EarlyWrite k i f) (Def x' h') e = absurd (false≢true e)
column-true (EarlyWrite k i f) (DirectWrite k' i' f') e = absurd (false≢true e)
column-true (EarlyWrite k i f) (Fill x' h') e = absurd (false≢true e)
column-true (EarlyWrite k i f) (Stay x' f') e = absurd (false≢true e)
column-true (EarlyWrite k i f) (EarlyWrite k' i' f') e =
    let m = and_parts (nat_eq k k') (nat_eq i i' && nat_eq f f') e in
    let n = and_parts (nat_eq i i') (nat_eq f f') m.1 in
    ap (λ z. EarlyWrite z i f) (same-number k k' m.0) ∙ ap (λ z. EarlyWrite k' z f) (same-number i i' n.0) ∙ ap (λ z. EarlyWrite k' i' z) (same-number f f' n.1)
column-true (EarlyWrite k i f) (First k' f') e = absurd (false≢true e)
column-true (EarlyWrite k i f) (Serve k' i' h' p') e = absurd (false≢true e)
column-true (EarlyWrite k i f) (ReadVia k' r') e = absurd (false≢true e)
column-true (EarlyWrite k i f) (WriteVia k' r') e = absurd (false≢true e)
column-true (First k f) (Def x' h') e = absurd (false≢true e)
column-true (First k f) (DirectWrite k' i' f') e = absurd (false≢true e)
column-true (First k f) (Fill x' h') e = absurd (false≢true e)
column-true (First k f) (Stay x' f') e = absurd (false≢true e)
column-true (First k f) (EarlyWrite k' i' f') e = absurd (false≢true e)
column-true (First k f) (First k' f') e = let m = and_parts (nat_eq k k') (nat_eq f f') e in ap (λ z. First z f) (same-number k k' m.0) ∙ ap (λ z. First k' z) (same-number f f' m.1)
column-true (First k f) (Serve k' i' h' p') e = absurd (false≢true e)
column-true (First k f) (ReadVia k' r') e = absurd (false≢true e)
column-true (First k f) (WriteVia k' r') e = absurd (false≢true e)
column-true (Serve k i h p) (Def x' h') e = absurd (false≢true e)
column-true (Serve k i h p) (DirectWrite k' i' f') e = absurd (false≢true e)
column-true (Serve k i h p) (Fill x' h') e = absurd (false≢true e)
column-true (Serve k i h p) (Stay x' f') e = absurd (false≢true e)
column-true (Serve k i h p) (EarlyWrite k' i' f') e = absurd (false≢true e)
column-true (Serve k i h p) (First k' f') e = absurd (false≢true e)
column-true (Serve k i h p) (Serve k' i' h' p') e =
    let m = and_parts (nat_eq k k') (nat_eq i i' && (same_bank h h' && same_bank p p')) e in
    let n = and_parts (nat_eq i i') (same_bank h h' && same_bank p p') m.1 in
    let o = and_parts (same_bank h h') (same_bank p p') n.1 in
    ap (λ z. Serve z i h p) (same-number k k' m.0) ∙ ap (λ z. Serve k' z h p) (same-number i i' n.0) ∙ ap (λ z. Serve k' i' z p) (bank-true h h' o.0) ∙ ap (λ z. Serve k' i' h' z) (bank-true p p' o.1)
column-true (Serve k i h p) (ReadVia k' r') e = absurd (false≢true e)
column-true (Serve k i h p) (WriteVia k' r') e = absurd (false≢true e)
column-true (ReadVia k r) (Def x' h') e = absurd (false≢true e)
column-true (ReadVia k r) (DirectWrite k' i' f') e = absurd (false≢true e)
column-true (ReadVia k r) (Fill x' h') e = absurd (false≢true e)
column-true (ReadVia k r) (Stay x' f') e = absurd (false≢true e)
column-true (ReadVia k r) (EarlyWrite k' i' f') e = absurd (false≢true e)
column-true (ReadVia k r) (First k' f') e = absurd (false≢true e)
column-true (ReadVia k r) (Serve k' i' h' p') e = absurd (false≢true e)
column-true (ReadVia k r) (ReadVia k' r') e = let m = and_parts (nat_eq k k') (nat_eq r r') e in ap (λ z. ReadVia z r) (same-number k k' m.0) ∙ ap (λ z. ReadVia k' z) (same-number r r' m.1)
column-true (ReadVia k r) (WriteVia k' r') e = absurd (false≢true e)
column-true (WriteVia k r) (Def x' h') e = absurd (false≢true e)
column-true (WriteVia k r) (DirectWrite k' i' f') e = absurd (false≢true e)
column-true (WriteVia k r) (Fill x' h') e = absurd (false≢true e)
column-true (WriteVia k r) (Stay x' f') e = absurd (false≢true e)
column-true (WriteVia k r) (EarlyWrite k' i' f') e = absurd (false≢true e)
column-true (WriteVia k r) (First k' f') e = absurd (false≢true e)
column-true (WriteVia k r) (Serve k' i' h' p') e = absurd (false≢true e)
column-true (WriteVia k r) (ReadVia k' r') e = absurd (false≢true e)
column-true (WriteVia k r) (WriteVia k' r') e = let m = and_parts (nat_eq k k') (nat_eq r r') e in ap (λ z. WriteVia z r) (same-number k k' m.0) ∙ ap (λ z. WriteVia k' z) (same-number r r' m.1)

-- ---- numbers

-- a number is noted where the column has none
pub noted : (b : Bool) (o : Option ℕ) (j : ℕ) → (b ≡ true → o ≡ None) → cond b (Some j) o ≡ either o (if b then Some j else None)
noted true o j h = sym (ap (λ z. either z (Some j)) (h refl))
noted false (Some x) j h = refl
noted false None j h = refl

-- and kept where it has one
pub kept : (b : Bool) (o : Option ℕ) (j : ℕ) → (b ≡ true → is_some o ≡ true) → o ≡ either o (if b then Some j else None)
kept true None j h = absurd (false≢true (h refl))
kept true (Some x) j h = refl
kept false (Some x) j h = refl
kept false None j h = refl

pub number-more : (i : ℕ) (ds : List Column) (e c : Column) (n : ℕ) → n ≡ i + length ds → number_in i (ds ++ e ∷ []) c ≡ either (number_in i ds c) (if same_column e c then Some n else None)
number-more i [] e c n h = ap (λ m. if same_column e c then Some m else None) (omega (arith, h))
number-more i (d ∷ ds) e c n h = pick (same_column d c) (number-more (suc i) ds e c n (omega (arith, h)))
  where
    pick : (b : Bool) → number_in (suc i) (ds ++ e ∷ []) c ≡ either (number_in (suc i) ds c) (if same_column e c then Some n else None)
        → (if b then Some i else number_in (suc i) (ds ++ e ∷ []) c) ≡ either (if b then Some i else number_in (suc i) ds c) (if same_column e c then Some n else None)
    pick true q = refl
    pick false q = q

pub copied-some : (o : Option (Bor ℕ)) → is_some (option_copied o) ≡ is_some o
copied-some None = refl
copied-some (Some x) = refl

pub copied-none : (o : Option (Bor ℕ)) → is_some o ≡ false → option_copied o ≡ None
copied-none None e = refl
copied-none (Some x) e = absurd (false≢true (sym e))
