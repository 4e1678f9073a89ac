-- Bytes are read one way.
use Rattle.std.proofs.Common.{◌≡◌, ◌≢◌, ℕ, ◌≤◌, List, [], ◌∷◌, ◌++◌, get_or, map, refl, sym, ap, ◌∙◌, subst, arith, codes}
use Rattle.nv_lines.specs.Line.{AllLack, parted}
use Rattle.nv_lines.specs.Format.{IsText, Begins, IsFormat}
use Rattle.nv_lines.proofs.SplitLaws.{lines_one, split_one}
use Rattle.nv_lines.proofs.NumberLemmas.{decimal_one}
use Rattle.nv_lines.proofs.FormatLaws.{begins_format, no_text, one_fault}
use Rattle.uc_isa.specs.declared.instruction.Cond.{Cond}
use Rattle.uc_isa.specs.declared.instruction.Instr.{Instr}
use Rattle.uc_asm.specs.Words.{words, register_name, InRange, condition_name}
use Rattle.uc_asm.specs.Items.{Item, label, plain, jump, IsName, IsNameByte, BeginsWithLetter, IsItem, item_line, params_line}
use Rattle.uc_asm.specs.Text.{AreItems, IsAssembly, IsWhole, IsSyntaxError, Reads}
use Rattle.uc_asm.proofs.LineLemmas.{name-lacks, jump-parts, params_parts}
use Rattle.uc_asm.proofs.WordLemmas.{instruction-parts}
use Rattle.uc_asm.proofs.LineFeeds.{items-lack, params-lacks}
use Rattle.uc_asm.proofs.TextLemmas.{label-plain, label-jump}
use Rattle.uc_asm.proofs.Undo.{words_one, condition_one, no_jump}

no-colon : ¬ IsNameByte 58
no-colon h = grind arith

-- a place is no name
no-place : (place : ℕ) → ¬ BeginsWithLetter (register_name place)
no-place place h = grind arith

plain-jump : (i : Instr) (cond : Cond) (name : List ℕ) → InRange i → IsName name → parted (words i) ≢ parted (codes "br" ∷ condition_name cond ∷ name ∷ [])
plain-jump i cond name h k e =
    let found = no_jump i cond name (sym (instruction-parts (parted (words i)) i h refl) ∙ jump-parts (parted (words i)) cond name k e) in
    no-place found.0 (subst BeginsWithLetter (sym found.1) k.first)

-- a line is that of one item
item_one : (x y : Item) → IsItem x → IsItem y → item_line x ≡ item_line y → x ≡ y
item_one (label a) (label b) h k e = ap label (split_one 58 a [] b [] (name-lacks 58 a no-colon h) (name-lacks 58 b no-colon k) e).0
item_one (label a) (plain i) h k e = absurd (label-plain a i h k e)
item_one (label a) (jump cond b) h k e = absurd (label-jump a cond b h k e)
item_one (plain i) (label b) h k e = absurd (label-plain b i k h (sym e))
item_one (plain i) (plain j) h k e = ap plain (words_one i j h k (sym (instruction-parts (parted (words i)) i h refl) ∙ instruction-parts (parted (words i)) j k e))
item_one (plain i) (jump cond b) h k e = absurd (plain-jump i cond b h k e)
item_one (jump cond a) (label b) h k e = absurd (label-jump b cond a k h (sym e))
item_one (jump cond a) (plain j) h k e = absurd (plain-jump j cond a k h (sym e))
item_one (jump cond a) (jump other b) h k e =
    let line = parted (codes "br" ∷ condition_name cond ∷ a ∷ []) in
    let same = sym (jump-parts line cond a h refl) ∙ jump-parts line other b k e in
    let conds = condition_one cond other (ap (λ (ps : List (List ℕ)). get_or ps 1 []) same) in
    let names = ap (λ (ps : List (List ℕ)). get_or ps 2 []) same in
    λ j. jump (conds j) (names j)

items_one : (xs ys : List Item) → AreItems xs → AreItems ys → map item_line xs ≡ map item_line ys → xs ≡ ys
items_one [] [] h k e = refl
items_one [] (y ∷ ys) h k e = cc
items_one (x ∷ xs) [] h k e = cc
items_one (x ∷ xs) (y ∷ ys) h k e =
    let heads : item_line x ≡ item_line y = cc in
    let tails : map item_line xs ≡ map item_line ys = cc in
    let head = item_one x y h.0 k.0 heads in
    let tail = items_one xs ys h.1 k.1 tails in
    λ j. head j ∷ tail j

params_one : (m n : ℕ) → m ≤ 8 → n ≤ 8 → params_line m ≡ params_line n → m ≡ n
params_one m n h k e =
    let same = sym (params_parts (params_line m) m h refl) ∙ params_parts (params_line m) n k e in
    decimal_one m n (omega arith) (omega arith) (ap (λ (ps : List (List ℕ)). get_or ps 1 []) same)

assembly-lacks : (ls : List (List ℕ)) (params : ℕ) (items : List Item) → IsAssembly ls params items → AllLack 10 ls
assembly-lacks ls params items h = subst (AllLack 10) (sym h.lines) (params-lacks params h.few, items-lack items h.each)

pub whole-lacks : (ls : List (List ℕ)) → IsWhole ls → AllLack 10 ls
whole-lacks ls w = assembly-lacks ls w.params w.items w.assembly

pub assembly-format : IsFormat (Begins IsWhole) IsWhole
assembly-format = begins_format IsWhole whole-lacks

pub reads-one : (bytes : List ℕ) (m n : ℕ) (xs ys : List Item) → Reads bytes m xs → Reads bytes n ys → (m ≡ n) × (xs ≡ ys)
reads-one bytes m n xs ys h k =
    let same = (lines_one h.ls k.ls [] [] (assembly-lacks h.ls m xs h.assembly) (assembly-lacks k.ls n ys k.assembly) tt tt (ap (λ (t : List ℕ). t ++ []) (sym h.spelled ∙ k.spelled))).0 in
    let lines : params_line m ∷ map item_line xs ≡ params_line n ∷ map item_line ys = sym h.assembly.lines ∙ (same ∙ k.assembly.lines) in
    let heads : params_line m ≡ params_line n = cc in
    let tails : map item_line xs ≡ map item_line ys = cc in
    (params_one m n h.assembly.few k.assembly.few heads, items_one xs ys h.assembly.each k.assembly.each tails)

reads-text : (bytes : List ℕ) (params : ℕ) (items : List Item) → Reads bytes params items → IsText IsWhole bytes
reads-text bytes params items h = record { lines = h.ls; spelled = h.spelled; whole = record { params = params; items = items; assembly = h.assembly } }

-- a text that is read has no line that isn't of the format
pub reads-no-syntax : (bytes : List ℕ) (params : ℕ) (items : List Item) (n : ℕ) → Reads bytes params items → ¬ IsSyntaxError bytes n
reads-no-syntax bytes params items n h f = no_text (Begins IsWhole) IsWhole bytes n assembly-format f (reads-text bytes params items h)

pub syntax-one : (bytes : List ℕ) (m n : ℕ) → IsSyntaxError bytes m → IsSyntaxError bytes n → m ≡ n
syntax-one bytes m n f g = one_fault (Begins IsWhole) IsWhole bytes m n assembly-format f g
