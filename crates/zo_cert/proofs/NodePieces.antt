-- the lines of nodes, read one by one
use Rattle.std.proofs.Common.{◌≡◌, ℕ, ◌+◌, ◌*◌, ◌^◌, ◌<◌, List, [], ◌∷◌, ◌++◌, length, map, sym, ap, ◌∙◌, arith}
use Rattle.std.specs.List.{All}
use Rattle.std.proofs.lemmas.List.{length-append, map-append}
use Rattle.std.proofs.lemmas.List.Elements.{All-push}
use Rattle.nv_lines.specs.Line.{text_of}
use Rattle.nv_lines.proofs.SplitLaws.{text_of-push}
use Rattle.zo_cert_tree.specs.Node.{Node, branch_on, bound_by, clash_of, left_open, node_line, IsNodeText}

-- N nodes were read
pub record HasNodes (bytes rest : List ℕ) (nodes : List Node) (first number : ℕ) : Type 0 where
  pub fit : All IsNodeText nodes
  pub spelled : bytes ≡ text_of (map node_line nodes) ++ rest
  pub counted : number ≡ first + length nodes
  pub room : 2 * number + length rest < 2 ^ 32

pub node_some : (n : Node) → 0 < length (node_line n)
node_some (branch_on j) = omega arith
node_some (bound_by d ms) = omega arith
node_some (clash_of []) = omega arith
node_some (clash_of (m ∷ ms)) = omega arith
node_some left_open = omega arith

pub one_node_more : (bytes rest rest' : List ℕ) (nodes : List Node) (line : List ℕ) (first number : ℕ) (n : Node) → HasNodes bytes rest nodes first number → rest ≡ line ++ 10 ∷ rest' → line ≡ node_line n → IsNodeText n → HasNodes bytes rest' (nodes ++ n ∷ []) first (number + 1)
one_node_more bytes rest rest' nodes line first number n h e f fits =
    record {
      fit = All-push IsNodeText nodes n h.fit fits;
      spelled = h.spelled ∙ (ap (λ x. text_of (map node_line nodes) ++ x) (e ∙ ap (λ l. l ++ 10 ∷ rest') f)
          ∙ (sym (text_of-push (map node_line nodes) (node_line n) rest') ∙ ap (λ ls. text_of ls ++ rest') (sym (map-append node_line nodes (n ∷ [])))));
      counted = omega (arith, h.counted, length-append nodes (n ∷ []));
      room = omega (arith, h.room, ap length e, ap length f, length-append line (10 ∷ rest'), node_some n);
    }
