-- The cells of types and of forms, and what they say of what is packed.
use Rattle.std.proofs.Common.{◌≡◌, ◌∙◌, refl, ap, sym, subst, ℕ, Bool, true, false, eqb, Option, None, Some, slice_get, Result, true≢false}
use Rattle.std.specs.Result.{IfOk}
use Rattle.std.proofs.lemmas.Option.{none-some, same_Some}
use Rattle.nv_ast.specs.Types.{Ty, WordTy, BoolTy, TupleTy, RecordTy, Tys, NamedTys, Form, WordForm, RecordForm, ChoiceForm, Forms, can_pack, can_pack_all}
use Rattle.nv_types_table.specs.declared.table.Cell.{Cell}
use Rattle.nv_types_table.specs.declared.table.Cell.TheVariants.{Word, Record, Choice}
use Rattle.nv_types_table.specs.inner.Store.{Store, IsStore, IsType, IsFields, IsForm, IsForms, record_in}
use Rattle.nv_types_table.proofs.OneNumber.{same_number}

same_record : (i j : ℕ) → Some (Record i) ≡ Some (Record j) → i ≡ j
same_record i j e = cc

same_choice : (i j : ℕ) → Some (Choice i) ≡ Some (Choice j) → i ≡ j
same_choice i j e = cc

-- ---- the cell of a type
word_record : (c : Option Cell) (j : ℕ) → c ≡ Some Word → c ≡ Some (Record j) → ⊥
word_record c j h e = cc

word_choice : (c : Option Cell) (j : ℕ) → c ≡ Some Word → c ≡ Some (Choice j) → ⊥
word_choice c j h e = cc

record_choice : (c : Option Cell) (i j : ℕ) → c ≡ Some (Record i) → c ≡ Some (Choice j) → ⊥
record_choice c i j h e = cc

pub record_some : (s : Store) → IsStore s → (i j : ℕ) (u : Ty) → IsType s i u → record_in (slice_get s.cells i) ≡ Some j → (ts : NamedTys) × (u ≡ RecordTy ts) × IsFields s j ts
record_some s is i j WordTy h e = absurd (none-some j (sym (ap (λ n. record_in (slice_get s.cells n)) h ∙ ap record_in is.word) ∙ e))
record_some s is i j BoolTy h e = absurd (none-some j (sym (ap (λ n. record_in (slice_get s.cells n)) h ∙ ap record_in is.bool) ∙ e))
record_some s is i j (TupleTy ts) h e = absurd (none-some j (sym (ap record_in h.1) ∙ e))
record_some s is i j (RecordTy ts) h e = (ts, refl, subst (λ n. IsFields s n ts) (same_Some h.0 j (sym (ap record_in h.1) ∙ e)) h.2)

-- a type without the cell of a record is none
pub not_record : (s : Store) (i : ℕ) (u : Ty) → IsType s i u → record_in (slice_get s.cells i) ≡ None → (P : Ty → Bool) → P WordTy ≡ false → P BoolTy ≡ false → ((ts : Tys) → P (TupleTy ts) ≡ false) → P u ≡ false
not_record s i WordTy h e P word bool tuple = word
not_record s i BoolTy h e P word bool tuple = bool
not_record s i (TupleTy ts) h e P word bool tuple = tuple ts
not_record s i (RecordTy ts) h e P word bool tuple = absurd (none-some h.0 (sym e ∙ ap record_in h.1))

-- ---- the cell of a form
pub word_form : (s : Store) → IsStore s → (i : ℕ) (f : Form) → IsForm s i f → slice_get s.cells i ≡ Some Word → f ≡ WordForm
word_form s is i WordForm h e = refl
word_form s is i (RecordForm fs) h e = absurd (word_record (slice_get s.cells i) h.0 e h.1)
word_form s is i (ChoiceForm fs) h e = absurd (word_choice (slice_get s.cells i) h.0 e h.1)

pub record_form : (s : Store) → IsStore s → (i j : ℕ) (f : Form) → IsForm s i f → slice_get s.cells i ≡ Some (Record j) → (fs : Forms) × (f ≡ RecordForm fs) × IsForms s j fs
record_form s is i j WordForm h e = absurd (word_record (slice_get s.cells i) j (ap (slice_get s.cells) h ∙ is.word) e)
record_form s is i j (RecordForm fs) h e = (fs, refl, subst (λ n. IsForms s n fs) (same_record h.0 j (sym h.1 ∙ e)) h.2)
record_form s is i j (ChoiceForm fs) h e = absurd (record_choice (slice_get s.cells i) j h.0 e h.1)

pub choice_form : (s : Store) → IsStore s → (i j : ℕ) (f : Form) → IsForm s i f → slice_get s.cells i ≡ Some (Choice j) → (fs : Forms) × (f ≡ ChoiceForm fs) × IsForms s j fs
choice_form s is i j WordForm h e = absurd (word_choice (slice_get s.cells i) j (ap (slice_get s.cells) h ∙ is.word) e)
choice_form s is i j (RecordForm fs) h e = absurd (record_choice (slice_get s.cells i) h.0 j h.1 e)
choice_form s is i j (ChoiceForm fs) h e = (fs, refl, subst (λ n. IsForms s n fs) (same_choice h.0 j (sym h.1 ∙ e)) h.2)

-- ---- what is packed
pub pack_word : (s : Store) → IsStore s → (i t : ℕ) → slice_get s.cells i ≡ Some Word → (f : Form) (u : Ty) → IsForm s i f → IsType s t u → eqb t 0 ≡ can_pack f u
pack_word s is i t at f u h k = same_number s is t 0 u WordTy k refl ∙ ap (λ (g : Form). can_pack g u) (sym (word_form s is i f h at))

pub pack_record : {E : Type 0} (s : Store) → IsStore s → (i t j l : ℕ) (r : Result Bool E) → slice_get s.cells i ≡ Some (Record j) → record_in (slice_get s.cells t) ≡ Some l
    → ((fs : Forms) (ts : NamedTys) → IsForms s j fs → IsFields s l ts → IfOk r (λ b. b ≡ can_pack_all fs ts)) → (f : Form) (u : Ty) → IsForm s i f → IsType s t u → IfOk r (λ b. b ≡ can_pack f u)
pack_record s is i t j l r at fields all f u h k =
    let p = record_form s is i j f h at in
    let q = record_some s is t l u k fields in
    subst (λ (g : Form). IfOk r (λ b. b ≡ can_pack g u)) (sym p.1) (subst (λ (v : Ty). IfOk r (λ b. b ≡ can_pack (RecordForm p.0) v)) (sym q.1) (all p.0 q.0 p.2 q.2))

pub pack_choice : {E : Type 0} (s : Store) → IsStore s → (i t j l : ℕ) (r : Result Bool E) → slice_get s.cells i ≡ Some (Choice j) → record_in (slice_get s.cells t) ≡ Some l
    → ((fs : Forms) (ts : NamedTys) → IsForms s j fs → IsFields s l ts → IfOk r (λ b. b ≡ can_pack (ChoiceForm fs) (RecordTy ts))) → (f : Form) (u : Ty) → IsForm s i f → IsType s t u → IfOk r (λ b. b ≡ can_pack f u)
pack_choice s is i t j l r at fields all f u h k =
    let p = choice_form s is i j f h at in
    let q = record_some s is t l u k fields in
    subst (λ (g : Form). IfOk r (λ b. b ≡ can_pack g u)) (sym p.1) (subst (λ (v : Ty). IfOk r (λ b. b ≡ can_pack (ChoiceForm p.0) v)) (sym q.1) (all p.0 q.0 p.2 q.2))

-- by a record or a choice no type but a record is packed
pub pack_no_record : (s : Store) (fs : Forms) (t : ℕ) (u : Ty) → IsType s t u → record_in (slice_get s.cells t) ≡ None → can_pack (RecordForm fs) u ≡ false
pack_no_record s fs t u k none = not_record s t u k none (λ (v : Ty). can_pack (RecordForm fs) v) refl refl (λ ts. refl)

pub pack_no_choice : (s : Store) (fs : Forms) (t : ℕ) (u : Ty) → IsType s t u → record_in (slice_get s.cells t) ≡ None → can_pack (ChoiceForm fs) u ≡ false
pack_no_choice s fs t u k none = not_record s t u k none (λ (v : Ty). can_pack (ChoiceForm fs) v) refl refl (λ ts. refl)

pub record_packed : {E : Type 0} (s : Store) → IsStore s → (forms t l : ℕ) (r : Result Bool E) → record_in (slice_get s.cells t) ≡ Some l
    → ((fs : Forms) (ts : NamedTys) → IsForms s forms fs → IsFields s l ts → IfOk r (λ b. b ≡ can_pack_all fs ts)) → (u : Ty) (fs : Forms) → IsType s t u → IsForms s forms fs → IfOk r (λ b. b ≡ can_pack (RecordForm fs) u)
record_packed s is forms t l r fields all u fs k h =
    let q = record_some s is t l u k fields in
    subst (λ (v : Ty). IfOk r (λ b. b ≡ can_pack (RecordForm fs) v)) (sym q.1) (all fs q.0 h q.2)

pub pack_record_none : (s : Store) → IsStore s → (i t j : ℕ) → slice_get s.cells i ≡ Some (Record j) → record_in (slice_get s.cells t) ≡ None → (f : Form) (u : Ty) → IsForm s i f → IsType s t u → false ≡ can_pack f u
pack_record_none s is i t j at none f u h k =
    let p = record_form s is i j f h at in
    sym (ap (λ (g : Form). can_pack g u) p.1 ∙ pack_no_record s p.0 t u k none)

pub pack_choice_none : (s : Store) → IsStore s → (i t j : ℕ) → slice_get s.cells i ≡ Some (Choice j) → record_in (slice_get s.cells t) ≡ None → (f : Form) (u : Ty) → IsForm s i f → IsType s t u → false ≡ can_pack f u
pack_choice_none s is i t j at none f u h k =
    let p = choice_form s is i j f h at in
    sym (ap (λ (g : Form). can_pack g u) p.1 ∙ pack_no_choice s p.0 t u k none)

-- whether a cell is that of some form
abbrev pub is_form_cell : Option Cell → Bool
is_form_cell (Some Word) = true
is_form_cell (Some (Record j)) = true
is_form_cell (Some (Choice j)) = true
is_form_cell _ = false

pub pack_no_form : (s : Store) → IsStore s → (i t : ℕ) → is_form_cell (slice_get s.cells i) ≡ false → (f : Form) (u : Ty) → IsForm s i f → IsType s t u → false ≡ can_pack f u
pack_no_form s is i t other WordForm u h k = absurd (true≢false (sym (ap (λ n. is_form_cell (slice_get s.cells n)) h ∙ ap is_form_cell is.word) ∙ other))
pack_no_form s is i t other (RecordForm fs) u h k = absurd (true≢false (sym (ap is_form_cell h.1) ∙ other))
pack_no_form s is i t other (ChoiceForm fs) u h k = absurd (true≢false (sym (ap is_form_cell h.1) ∙ other))
