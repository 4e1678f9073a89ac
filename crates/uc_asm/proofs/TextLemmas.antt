-- Whole texts, and where they go wrong.
use Rattle.std.proofs.Common.{◌≡◌, ◌≢◌, ℕ, ◌+◌, ◌≤◌, List, [], ◌∷◌, ◌++◌, length, map, refl, sym, ap, ◌∙◌, subst, arith, codes, append_assoc, length-append}
use Rattle.std.proofs.lemmas.List.{append-nil, length-map}
use Rattle.nv_lines.specs.Line.{Lacks, parts, parted, text_of}
use Rattle.nv_lines.specs.Format.{IsText, Begins, FirstFault, wrong, short}
use Rattle.nv_lines.proofs.LineLemmas.{parts_whole}
use Rattle.nv_lines.proofs.SplitLaws.{text_of-append, lacks_not, lines_one, Lacks-append, Lacks-test}
use Rattle.uc_isa.specs.declared.instruction.Cond.{Cond}
use Rattle.uc_isa.specs.declared.instruction.Instr.{Instr}
use Rattle.uc_isa.specs.declared.instruction.Instr.TheVariants.{Alu, Un, Immed, Br, Read, Write, Halt}
use Rattle.uc_asm.specs.Words.{words, InRange, condition_name}
use Rattle.uc_asm.specs.Items.{Item, label, plain, jump, IsName, IsItem, item_line, params_line, count}
use Rattle.uc_asm.specs.Text.{AreItems, IsWhole, IsSyntaxError, Reads}
use Rattle.uc_asm.specs.inner.Reading.{HasItems}
use Rattle.uc_asm.specs.inner.Seen.{seen, all_seen}
use Rattle.uc_asm.specs.declared.item.Item.{Item as ReadItem}
use Rattle.uc_asm.proofs.LineLemmas.{name-lacks, no-space, jump-parts}
use Rattle.uc_asm.proofs.WordLemmas.{instruction-parts}
use Rattle.uc_asm.proofs.LineFeeds.{items-lack, params-lacks}

-- lines that are those of items begin a text
all-items : (items : List Item) → AreItems items → AreItems (items ++ plain (Halt 0 0) ∷ [])
all-items [] h = ((omega arith, omega arith), tt)
all-items (item ∷ items) h = (h.0, all-items items h.1)

some-count : (items : List Item) → 1 ≤ count (items ++ plain (Halt 0 0) ∷ [])
some-count [] = omega arith
some-count (label name ∷ items) = some-count items
some-count (plain i ∷ items) = omega arith
some-count (jump cond name ∷ items) = omega arith

map-more : (items : List Item) (item : Item) → map item_line (items ++ item ∷ []) ≡ map item_line items ++ item_line item ∷ []
map-more [] item = refl
map-more (x ∷ items) item = ap (λ ls. item_line x ∷ ls) (map-more items item)

pub front-begins : (params : ℕ) (items : List Item) → params ≤ 8 → AreItems items → Begins IsWhole (params_line params ∷ map item_line items)
front-begins params items few each = record {
  more = item_line (plain (Halt 0 0)) ∷ [];
  whole = record {
    params = params;
    items = items ++ plain (Halt 0 0) ∷ [];
    assembly = record { lines = ap (λ ls. params_line params ∷ ls) (sym (map-more items (plain (Halt 0 0)))); few = few; each = all-items items each; some = some-count items };
  };
}

pub nothing-begins : Begins IsWhole []
nothing-begins = let b = front-begins 0 [] (omega arith) tt in record { more = params_line 0 ∷ b.more; whole = b.whole }

-- the line behind others in a text is an item's
line-of-item : (xs : List (List ℕ)) (line : List ℕ) (more : List (List ℕ)) (items : List Item) → AreItems items → xs ++ line ∷ more ≡ map item_line items → (item : Item) × IsItem item × (line ≡ item_line item)
line-of-item [] line more [] h e = cc
line-of-item [] line more (item ∷ items) h e = let same : line ≡ item_line item = cc in (item, h.0, same)
line-of-item (x ∷ xs) line more [] h e = cc
line-of-item (x ∷ xs) line more (item ∷ items) h e = let rest : xs ++ line ∷ more ≡ map item_line items = cc in line-of-item xs line more items h.1 rest

pub not-begins : (params : ℕ) (xs : List (List ℕ)) (line : List ℕ) → ((item : Item) → IsItem item → line ≢ item_line item) → ¬ Begins IsWhole ((params_line params ∷ xs) ++ line ∷ [])
not-begins params xs line none b =
    let w = b.whole in
    let tail : (xs ++ line ∷ []) ++ b.more ≡ map item_line w.items = let e = w.assembly.lines in cc in
    let found = line-of-item xs line b.more w.items w.assembly.each (sym (append_assoc xs (line ∷ []) b.more) ∙ tail) in
    none found.0 found.1 found.2

pub not-first : (line : List ℕ) → ((n : ℕ) → n ≤ 8 → line ≢ params_line n) → ¬ Begins IsWhole (line ∷ [])
not-first line none b = let w = b.whole in let e = w.assembly.lines in none w.params w.assembly.few cc

-- the faults of line 1
pub first-wrong : (bytes line rest : List ℕ) → bytes ≡ line ++ 10 ∷ rest → Lacks 10 line → ((n : ℕ) → n ≤ 8 → line ≢ params_line n) → IsSyntaxError bytes 1
first-wrong bytes line rest e l none = wrong [] line rest e l nothing-begins (not-first line none)

no-text : (bytes : List ℕ) → Lacks 10 bytes → ¬ IsText IsWhole bytes
no-text bytes l t =
    let w = t.whole in
    lacks_not 10 (params_line w.params) (text_of (map item_line w.items)) bytes l
    (sym (t.spelled ∙ ap text_of w.assembly.lines ∙ append_assoc (params_line w.params) (10 ∷ []) (text_of (map item_line w.items))))

pub first-short : (bytes : List ℕ) → Lacks 10 bytes → IsSyntaxError bytes 1
first-short bytes l = short [] bytes refl l nothing-begins (no-text bytes l)

-- a line after the first that is no item's
pub line-wrong : (text : List ℕ) (params : ℕ) (items : List Item) (before line rest : List ℕ) → HasItems text params items before → before ≡ line ++ 10 ∷ rest → Lacks 10 line
    → ((item : Item) → IsItem item → line ≢ item_line item) → IsSyntaxError text (length items + 2)
line-wrong text params items before line rest h e l none =
    let front = params_line params ∷ map item_line items in
    let number : length front + 1 ≡ length items + 2 = omega (arith, length-map items item_line) in
    subst (FirstFault (Begins IsWhole) IsWhole text) number
    (wrong front line rest (h.spelled ∙ ap (λ x. text_of front ++ x) e) l (front-begins params items h.few h.each) (not-begins params (map item_line items) line none))

-- a line that declares a label is no instruction's
label-line : (name : List ℕ) → IsName name → parts (name ++ codes ":") ≡ (name ++ codes ":") ∷ []
label-line name h = parts_whole (name ++ codes ":") (Lacks-append 32 name (codes ":") (name-lacks 32 name no-space h) (Lacks-test 32 (codes ":") refl))

pub label-plain : (name : List ℕ) (i : Instr) → IsName name → InRange i → name ++ codes ":" ≢ parted (words i)
label-plain name i h r e = two i (sym (label-line name h) ∙ instruction-parts (name ++ codes ":") i r e)
  where
    two : {line : List ℕ} (i : Instr) → line ∷ [] ≢ words i
    two (Alu d op x y) e = cc
    two (Un d op x) e = cc
    two (Immed d v s) e = cc
    two (Br cond place) e = cc
    two (Read m r n x off) e = cc
    two (Write m r n x off) e = cc
    two (Halt k n) e = cc

pub label-jump : (name : List ℕ) (cond : Cond) (target : List ℕ) → IsName name → IsName target → name ++ codes ":" ≢ parted (codes "br" ∷ condition_name cond ∷ target ∷ [])
label-jump name cond target h k e = let two = sym (label-line name h) ∙ jump-parts (name ++ codes ":") cond target k e in cc

-- lines tell how many instructions there are
count-same : (xs ys : List Item) → AreItems xs → AreItems ys → map item_line xs ≡ map item_line ys → count xs ≡ count ys
count-same [] [] h k e = refl
count-same [] (y ∷ ys) h k e = cc
count-same (x ∷ xs) [] h k e = cc
count-same (label a ∷ xs) (label b ∷ ys) h k e = let rest : map item_line xs ≡ map item_line ys = cc in count-same xs ys h.1 k.1 rest
count-same (label a ∷ xs) (plain i ∷ ys) h k e = let same : a ++ codes ":" ≡ parted (words i) = cc in absurd (label-plain a i h.0 k.0 same)
count-same (label a ∷ xs) (jump cond b ∷ ys) h k e = let same : a ++ codes ":" ≡ parted (codes "br" ∷ condition_name cond ∷ b ∷ []) = cc in absurd (label-jump a cond b h.0 k.0 same)
count-same (plain i ∷ xs) (label b ∷ ys) h k e = let same : b ++ codes ":" ≡ parted (words i) = cc in absurd (label-plain b i k.0 h.0 same)
count-same (jump cond a ∷ xs) (label b ∷ ys) h k e = let same : b ++ codes ":" ≡ parted (codes "br" ∷ condition_name cond ∷ a ∷ []) = cc in absurd (label-jump b cond a k.0 h.0 same)
count-same (plain i ∷ xs) (plain j ∷ ys) h k e = let rest : map item_line xs ≡ map item_line ys = cc in ap (λ n. 1 + n) (count-same xs ys h.1 k.1 rest)
count-same (plain i ∷ xs) (jump cond b ∷ ys) h k e = let rest : map item_line xs ≡ map item_line ys = cc in ap (λ n. 1 + n) (count-same xs ys h.1 k.1 rest)
count-same (jump cond a ∷ xs) (plain j ∷ ys) h k e = let rest : map item_line xs ≡ map item_line ys = cc in ap (λ n. 1 + n) (count-same xs ys h.1 k.1 rest)
count-same (jump cond a ∷ xs) (jump other b ∷ ys) h k e = let rest : map item_line xs ≡ map item_line ys = cc in ap (λ n. 1 + n) (count-same xs ys h.1 k.1 rest)

-- a last line that isn't whole, or no instruction
not-whole : (text : List ℕ) (params : ℕ) (items : List Item) (rest : List ℕ) → HasItems text params items rest → Lacks 10 rest → (rest ≡ [] → count items ≡ 0) → ¬ IsText IsWhole text
not-whole text params items rest h l none t =
    let front = params_line params ∷ map item_line items in
    let w = t.whole in
    let whole = params_line w.params ∷ map item_line w.items in
    let lines : t.lines ≡ whole = w.assembly.lines in
    let same = lines_one whole front [] rest (params-lacks w.params w.assembly.few, items-lack w.items w.assembly.each) (params-lacks params h.few, items-lack items h.each) tt l
    (append-nil (text_of whole) ∙ ap text_of (sym lines) ∙ sym t.spelled ∙ h.spelled) in
    let items-same : map item_line w.items ≡ map item_line items = let e = same.0 in cc in
    let counts = count-same w.items items w.assembly.each h.each items-same in
    let some = w.assembly.some in
    let zero-count = none (sym same.1) in
    absurd (omega arith)

pub text-short : (text : List ℕ) (params : ℕ) (items : List Item) (rest : List ℕ) → HasItems text params items rest → Lacks 10 rest → (rest ≡ [] → count items ≡ 0) → IsSyntaxError text (length items + 2)
text-short text params items rest h l none =
    let front = params_line params ∷ map item_line items in
    let number : length front + 1 ≡ length items + 2 = omega (arith, length-map items item_line) in
    subst (FirstFault (Begins IsWhole) IsWhole text) number
    (short front rest h.spelled l (front-begins params items h.few h.each) (not-whole text params items rest h l none))

-- the text is read
pub text-reads : (text : List ℕ) (params : ℕ) (items : List Item) → HasItems text params items [] → 1 ≤ count items → Reads text params items
text-reads text params items h some = record {
  ls = params_line params ∷ map item_line items;
  spelled = h.spelled ∙ append-nil (text_of (params_line params ∷ map item_line items));
  assembly = record { lines = refl; few = h.few; each = h.each; some = some };
}

-- one item more
each-more : (items : List Item) (item : Item) → AreItems items → IsItem item → AreItems (items ++ item ∷ [])
each-more [] item h k = (k, tt)
each-more (x ∷ items) item h k = (h.0, each-more items item h.1 k)

pub has-more : (text : List ℕ) (params : ℕ) (items : List Item) (before line rest : List ℕ) (item : Item) → HasItems text params items before → before ≡ line ++ 10 ∷ rest
    → IsItem item → line ≡ item_line item → HasItems text params (items ++ item ∷ []) rest
has-more text params items before line rest item h e i l =
    let front = params_line params ∷ map item_line items in
    let one = item_line item ∷ [] in
    let some = item-some item i in
    let shorter = h.short in
    record {
      spelled = h.spelled ∙ ap (λ x. text_of front ++ x) (e ∙ ap (λ x. x ++ 10 ∷ rest) l)
          ∙ ap (λ x. text_of front ++ x) (sym (append_assoc (item_line item) (10 ∷ []) rest)) ∙ sym (append_assoc (text_of front) (item_line item ++ 10 ∷ []) rest)
          ∙ ap (λ x. (text_of front ++ x) ++ rest) (sym (append-nil (item_line item ++ 10 ∷ []))) ∙ ap (λ x. x ++ rest) (sym (text_of-append front one))
          ∙ ap (λ ls. text_of (params_line params ∷ ls) ++ rest) (sym (map-more items item));
      few = h.few;
      each = each-more items item h.each i;
      short = omega (arith, length-append items (item ∷ []), ap length e, length-append line (10 ∷ rest), ap length l);
    }
  where
    item-some : (item : Item) → IsItem item → 1 ≤ length (item_line item)
    item-some (label name) i = omega (arith, length-append name (codes ":"))
    item-some (plain (Alu d op x y)) i = omega arith
    item-some (plain (Un d op x)) i = omega arith
    item-some (plain (Immed d v s)) i = omega arith
    item-some (plain (Br cond place)) i = omega arith
    item-some (plain (Read m r n x off)) i = omega arith
    item-some (plain (Write m r n x off)) i = omega arith
    item-some (plain (Halt k n)) i = omega arith
    item-some (jump cond name) i = omega arith

pub has-none : (text line rest : List ℕ) (params : ℕ) → text ≡ line ++ 10 ∷ rest → params ≤ 8 → line ≡ params_line params → HasItems text params [] rest
has-none text line rest params e few l = record {
  spelled = e ∙ ap (λ x. x ++ 10 ∷ rest) l ∙ sym (append_assoc (params_line params) (10 ∷ []) rest)
      ∙ ap (λ x. x ++ rest) (sym (append-nil (params_line params ++ 10 ∷ [])));
  few = few;
  each = tt;
  short = omega (arith, ap length e, length-append line (10 ∷ rest));
}

-- the same of the items that the reader makes
seen-more : (items : List ReadItem) (item : ReadItem) → all_seen (items ++ item ∷ []) ≡ all_seen items ++ seen item ∷ []
seen-more [] item = refl
seen-more (x ∷ items) item = ap (λ (is : List Item). seen x ∷ is) (seen-more items item)

pub has-seen-more : (text : List ℕ) (params : ℕ) (items more : List ReadItem) (before line rest : List ℕ) (item : ReadItem) → more ≡ items ++ item ∷ [] → HasItems text params (all_seen items) before → before ≡ line ++ 10 ∷ rest
    → IsItem (seen item) → line ≡ item_line (seen item) → HasItems text params (all_seen more) rest
has-seen-more text params items more before line rest item m h e i l =
    subst (λ (is : List Item). HasItems text params is rest) (sym (ap (λ (is : List ReadItem). all_seen is) m ∙ seen-more items item)) (has-more text params (all_seen items) before line rest (seen item) h e i l)

pub seen-short : (text : List ℕ) (params : ℕ) (items : List ReadItem) (rest : List ℕ) (n : ℕ) → HasItems text params (all_seen items) rest → Lacks 10 rest → (rest ≡ [] → count (all_seen items) ≡ 0) → n ≡ length items + 2 → IsSyntaxError text n
seen-short text params items rest n h l none e =
    let number : length (all_seen items) + 2 ≡ n = omega (arith, length-map items seen) in
    subst (IsSyntaxError text) number (text-short text params (all_seen items) rest h l none)
