-- where the reader of a part of a report stops
use Rattle.std.proofs.Common.{◌≡◌, ℕ, ◌+◌, ◌-◌, ◌^◌, ◌<◌, ◌≤◌, List, [], ◌∷◌, ◌++◌, length, map, replicate, refl, sym, ap, ◌∙◌, subst, arith, codes}
use Rattle.std.specs.List.{All}
use Rattle.std.proofs.lemmas.List.{append-nil, length-append, length-replicate, length-map, map-append}
use Rattle.std.proofs.lemmas.List.Elements.{All-append, All-push, All-replicate}
use Rattle.nv_lines.specs.Line.{Lacks, text_of}
use Rattle.nv_lines.specs.Format.{Begins}
use Rattle.zo_model.specs.inner.LineFault.{IsCounted, NoLine, IsLineFault}
use Rattle.zo_model.specs.declared.error.ZoError.{ZoError}
use Rattle.zo_model.specs.declared.error.ZoError.TheVariants.{NoMemory, Bad}
use Rattle.zo_model.proofs.LineLemmas.{counted_one, no_line_other, no_line_weaker}
use Rattle.zo_model.proofs.FaultLemmas.{spelled_more, one_line_text}
use Rattle.zo_model.proofs.TextLemmas.{at_map}
use Rattle.zo_cert_tree.specs.Node.{Node, left_open, node_line, IsNodeText}
use Rattle.zo_cert.specs.ReportText.{counted_line}
use Rattle.zo_cert_tree.specs.inner.NodeLine.{IsNodeLine}
use Rattle.zo_cert.specs.inner.ReportLine.{IsNodeFault}
use Rattle.zo_cert.specs.inner.ReportPart.{AreFrontLines, AreTreeLines, IsStop}
use Rattle.zo_cert.proofs.ReportFormat.{counted_lacks}
use Rattle.zo_cert.proofs.ReportLines.{two_lines}

-- a next line that isn't of the kind that has to come
pub stop_made : (Part : List (List ℕ) → Type 0) (Kind : List ℕ → Type 0) (bytes rest : List ℕ) (number number' : ℕ) (front : List (List ℕ)) (next : List ℕ) (e : ZoError) → bytes ≡ text_of front ++ rest → number' ≡ number + length front → Begins Part (front ++ next ∷ []) → ((line : List ℕ) → Begins Part (front ++ line ∷ []) → Kind line) → IsLineFault Kind rest number' e → IsStop Part bytes number e
stop_made Part Kind bytes rest number number' front next NoMemory spelled counted goes kind h = tt
stop_made Part Kind bytes rest number number' front next (Bad n) spelled counted goes kind h =
    (front, omega (arith, h.0, counted), record { rest = rest; spelled = spelled; next = next; goes_on = goes; no_line = no_line_weaker Kind (λ line. Begins Part (front ++ line ∷ [])) rest kind h.1 })

-- ---- the front

-- the slots and the budget that these lines begin with
begins_front : (front more : List (List ℕ)) (s b : ℕ) → s ≤ 128 → 1 ≤ b → b ≤ 1000000 → front ++ more ≡ codes "novareport 1" ∷ counted_line (codes "slots") s ∷ counted_line (codes "budget") b ∷ [] → Begins AreFrontLines front
begins_front front more s b hs hb hb' e = record { more = more; whole = record { slots = s; budget = b; slots_fit = hs; budget_low = hb; budget_high = hb'; lines = e } }

pub name_stop : (bytes : List ℕ) (number : ℕ) (e : ZoError) → IsLineFault (λ line. line ≡ codes "novareport 1") bytes number e → IsStop AreFrontLines bytes number e
name_stop bytes number e h =
    stop_made AreFrontLines (λ line. line ≡ codes "novareport 1") bytes bytes number number [] (codes "novareport 1") e refl (omega arith)
    (begins_front (codes "novareport 1" ∷ []) (counted_line (codes "slots") 0 ∷ counted_line (codes "budget") 1 ∷ []) 0 1 (omega arith) (omega arith) (omega arith) refl)
    (λ line b. let f = b.whole.lines in cc (f)) h

pub slots_stop : (bytes rest : List ℕ) (number number' : ℕ) (e : ZoError) → bytes ≡ codes "novareport 1" ++ 10 ∷ rest → number' ≡ number + 1 → IsLineFault (IsCounted (codes "slots") 128) rest number' e → IsStop AreFrontLines bytes number e
slots_stop bytes rest number number' e spelled counted h =
    stop_made AreFrontLines (IsCounted (codes "slots") 128) bytes rest number number' (codes "novareport 1" ∷ []) (counted_line (codes "slots") 0) e (spelled ∙ one_line_text (codes "novareport 1") rest) counted
    (begins_front (codes "novareport 1" ∷ counted_line (codes "slots") 0 ∷ []) (counted_line (codes "budget") 1 ∷ []) 0 1 (omega arith) (omega arith) (omega arith) refl)
    (λ line b. let f = b.whole.lines in record { number = b.whole.slots; within = b.whole.slots_fit; spelled = cc (f) }) h

-- a budget's line
abbrev pub IsBudget : List ℕ → Type 0
IsBudget line = (b : ℕ) × (1 ≤ b) × (b ≤ 1000000) × (line ≡ counted_line (codes "budget") b)

budget_is : (s : ℕ) (line : List ℕ) → Begins AreFrontLines (codes "novareport 1" ∷ counted_line (codes "slots") s ∷ line ∷ []) → IsBudget line
budget_is s line b = let f = b.whole.lines in (b.whole.budget, b.whole.budget_low, b.whole.budget_high, cc (f))

pub budget_stop : (bytes r1 r2 : List ℕ) (number number' s : ℕ) (e : ZoError) → s ≤ 128 → bytes ≡ codes "novareport 1" ++ 10 ∷ r1 → r1 ≡ counted_line (codes "slots") s ++ 10 ∷ r2 → number' ≡ number + 2 → IsLineFault IsBudget r2 number' e → IsStop AreFrontLines bytes number e
budget_stop bytes r1 r2 number number' s e few first second counted h =
    stop_made AreFrontLines IsBudget bytes r2 number number' (codes "novareport 1" ∷ counted_line (codes "slots") s ∷ []) (counted_line (codes "budget") 1) e
    (two_lines bytes r1 r2 (codes "novareport 1") (counted_line (codes "slots") s) first second) counted
    (begins_front (codes "novareport 1" ∷ counted_line (codes "slots") s ∷ counted_line (codes "budget") 1 ∷ []) [] s 1 few (omega arith) (omega arith) refl)
    (λ line b. budget_is s line b) h

-- no budget of at most a million is none of 1 to a million
pub budget_weaker : (rest : List ℕ) (number : ℕ) (e : ZoError) → IsLineFault (IsCounted (codes "budget") 1000000) rest number e → IsLineFault IsBudget rest number e
budget_weaker rest number NoMemory h = tt
budget_weaker rest number (Bad n) h =
    (h.0, no_line_weaker (IsCounted (codes "budget") 1000000) IsBudget rest (λ line b. record { number = b.0; within = b.2; spelled = b.3 }) h.1)

-- a number that is 0 isn't one from 1 on
pub zero_line : (Kind : List ℕ → Type 0) (name bytes rest : List ℕ) (n : ℕ) → Lacks 10 name → n ≡ 0 → bytes ≡ counted_line name n ++ 10 ∷ rest → ((k : ℕ) → k ≡ 0 → Kind (counted_line name k) → ⊥) → NoLine Kind bytes
zero_line Kind name bytes rest n lack z e none = no_line_other Kind bytes (counted_line name n) rest e (counted_lacks name n lack (omega (arith, z))) (none n z)

pub no_budget : (k : ℕ) → k ≡ 0 → IsBudget (counted_line (codes "budget") k) → ⊥
no_budget k z b = omega (arith, z, b.1, b.2, counted_one (codes "budget") k b.0 (omega (arith, z)) (omega (arith, b.2)) b.3)

-- ---- the tree

-- the line that counts the nodes
abbrev pub IsTreeHead : List ℕ → Type 0
IsTreeHead line = (n : ℕ) × (1 ≤ n) × (n < 2 ^ 32) × (line ≡ counted_line (codes "tree") n)

pub head_weaker : (rest : List ℕ) (number : ℕ) (e : ZoError) → IsLineFault (IsCounted (codes "tree") 4294967295) rest number e → IsLineFault IsTreeHead rest number e
head_weaker rest number NoMemory h = tt
head_weaker rest number (Bad n) h =
    (h.0, no_line_weaker (IsCounted (codes "tree") 4294967295) IsTreeHead rest (λ line b. record { number = b.0; within = omega (arith, b.2); spelled = b.3 }) h.1)

pub no_head : (k : ℕ) → k ≡ 0 → IsTreeHead (counted_line (codes "tree") k) → ⊥
no_head k z b = omega (arith, z, b.1, b.2, counted_one (codes "tree") k b.0 (omega (arith, z)) (omega (arith, b.2)) b.3)

-- the count and some nodes begin a tree, with open nodes after them
begins_tree : (n : ℕ) (nodes : List Node) → 1 ≤ n → n < 2 ^ 32 → length nodes ≤ n → All IsNodeText nodes → Begins AreTreeLines (counted_line (codes "tree") n ∷ map node_line nodes)
begins_tree n nodes some few fewer fit =
    let others = replicate (n - length nodes) left_open in
    let all : length (nodes ++ others) ≡ n = omega (arith, length-append nodes others, length-replicate (n - length nodes) left_open) in
    record {
      more = map node_line others;
      whole = record {
        nodes = nodes ++ others;
        some_nodes = omega (arith, all);
        few_nodes = omega (arith, all);
        nodes_fit = All-append IsNodeText nodes others fit (All-replicate IsNodeText (n - length nodes) left_open tt);
        lines = ap (λ t. counted_line (codes "tree") n ∷ t) (sym (map-append node_line nodes others)) ∙ ap (λ k. counted_line (codes "tree") k ∷ map node_line (nodes ++ others)) (sym all);
      };
    }

head_is : (line : List ℕ) → Begins AreTreeLines (line ∷ []) → IsTreeHead line
head_is line b = let f = b.whole.lines in (length b.whole.nodes, b.whole.some_nodes, b.whole.few_nodes, cc (f))

pub head_stop : (bytes : List ℕ) (number : ℕ) (e : ZoError) → IsLineFault IsTreeHead bytes number e → IsStop AreTreeLines bytes number e
head_stop bytes number e h =
    stop_made AreTreeLines IsTreeHead bytes bytes number number [] (counted_line (codes "tree") 1) e refl (omega arith)
    (record { more = node_line left_open ∷ []; whole = record { nodes = left_open ∷ []; some_nodes = omega arith; few_nodes = omega arith; nodes_fit = All-replicate IsNodeText 1 left_open tt; lines = refl } })
    (λ line b. head_is line b) h

-- a line behind fewer nodes than there are is one
node_next : (n : ℕ) (nodes : List Node) (line : List ℕ) → n < 2 ^ 32 → length nodes < n → Begins AreTreeLines ((counted_line (codes "tree") n ∷ map node_line nodes) ++ line ∷ []) → IsNodeLine line
node_next n nodes line few fewer b =
    let w = b.whole in
    let f = w.lines in
    let head : counted_line (codes "tree") n ≡ counted_line (codes "tree") (length w.nodes) = cc (f) in
    let tail : (map node_line nodes ++ line ∷ []) ++ b.more ≡ map node_line w.nodes = cc (f) in
    let counted = counted_one (codes "tree") n (length w.nodes) (omega arith) (omega (arith, w.few_nodes)) head in
    let r = at_map IsNodeText node_line w.nodes (map node_line nodes) line b.more [] (omega (arith, counted, length-map nodes node_line)) w.nodes_fit (tail ∙ sym (append-nil (map node_line w.nodes))) in
    record { node = r.0; fits = r.1; spelled = r.2 }

pub nodes_stop : (bytes rest : List ℕ) (number number' n : ℕ) (e : ZoError) → 1 ≤ n → n < 2 ^ 32 → bytes ≡ counted_line (codes "tree") n ++ 10 ∷ rest → number' ≡ number + 1 → IsNodeFault n rest number' e → IsStop AreTreeLines bytes number e
nodes_stop bytes rest number number' n NoMemory some few spelled counted h = tt
nodes_stop bytes rest number number' n (Bad k) some few spelled counted h =
    let nodes = h.0 in
    let s = h.2 in
    let front = counted_line (codes "tree") n ∷ map node_line nodes in (
      front,
      omega (arith, h.1, counted, length-map nodes node_line),
      record {
        rest = s.rest;
        spelled = spelled_more bytes rest s.rest (counted_line (codes "tree") n ∷ []) (map node_line nodes) (spelled ∙ one_line_text (counted_line (codes "tree") n) rest) s.spelled;
        next = node_line left_open;
        goes_on = subst (λ ls. Begins AreTreeLines (counted_line (codes "tree") n ∷ ls)) (map-append node_line nodes (left_open ∷ []))
            (begins_tree n (nodes ++ left_open ∷ []) some few (omega (arith, s.fewer, length-append nodes (left_open ∷ []))) (All-push IsNodeText nodes left_open s.fit tt));
        no_line = no_line_weaker IsNodeLine (λ line. Begins AreTreeLines (front ++ line ∷ [])) s.rest (λ line b. node_next n nodes line few s.fewer b) s.no_line;
      },
    )
