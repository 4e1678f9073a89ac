-- What begins a text of weights, and where its reader stops.
use Rattle.std.proofs.Common.{◌≡◌, ℕ, ◌+◌, ◌-◌, ◌^◌, ◌<◌, ◌≤◌, List, [], ◌∷◌, ◌++◌, length, map, replicate, refl, sym, ap, ◌∙◌, subst, arith, codes}
use Rattle.std.specs.List.{All}
use Rattle.std.proofs.lemmas.List.{length-append, length-replicate, length-map, map-append}
use Rattle.std.proofs.lemmas.List.Elements.{All-append, All-replicate, All-nil, All-push, All-head, All-tail}
use Rattle.nv_lines.specs.Line.{text_of}
use Rattle.nv_lines.specs.Format.{Begins}
use Rattle.nv_lines.proofs.SplitLaws.{text_of-cons, text_of-push}
use Rattle.place_weights.specs.WeightsText.{count_limit, weights_line, count_line, IsWhole}
use Rattle.place_weights.specs.declared.read.WeightsError.TheVariants.{Bad}
use Rattle.place_weights.specs.inner.Fault.{IsCounted, NoLine, StopsAtCount, IsCountFault}
use Rattle.place_weights.proofs.Lines.{counted_one, no_line_weaker}

-- ---- what begins a text

length-padded : (n : ℕ) (cs : List ℕ) → length cs ≤ n → length (cs ++ replicate (n - length cs) 0) ≡ n
length-padded n cs le = omega (arith, length-append cs (replicate (n - length cs) 0), length-replicate {A = ℕ} (n - length cs) 0)

-- the first line and some counts begin a text
pub begins_counts : (n : ℕ) (cs : List ℕ) → n ≤ count_limit → length cs ≤ n → All (λ c. c < 2 ^ 32) cs → Begins IsWhole (weights_line n ∷ map count_line cs)
begins_counts n cs few fewer h =
    let l = length-padded n cs fewer in
    record {
      more = map count_line (replicate (n - length cs) 0);
      whole = record {
        counts = cs ++ replicate (n - length cs) 0;
        valid = record { few = omega (arith, l, few); words = All-append (λ c. c < 2 ^ 32) cs (replicate (n - length cs) 0) h (All-replicate (λ c. c < 2 ^ 32) (n - length cs) 0 (omega arith)) };
        lines = sym (ap (λ k. weights_line k ∷ map count_line (cs ++ replicate (n - length cs) 0)) l ∙ ap (λ t. weights_line n ∷ t) (map-append count_line cs (replicate (n - length cs) 0)));
      };
    }

-- one element of a list stands where fewer lines end
at_map : (P : ℕ → Type 0) (f : ℕ → List ℕ) (xs : List ℕ) (ds : List (List ℕ)) (l : List ℕ) (more : List (List ℕ)) → length ds < length xs → All P xs → (ds ++ l ∷ []) ++ more ≡ map f xs → (x : ℕ) × P x × (l ≡ f x)
at_map P f [] ds l more lt h e = absurd (omega arith)
at_map P f (x ∷ xs) [] l more lt h e = (x, All-head P x xs h, cc)
at_map P f (x ∷ xs) (d ∷ ds) l more lt h e = at_map P f xs ds l more (omega arith) (All-tail P x xs h) (cc)

first_next : (line : List ℕ) → Begins IsWhole (line ∷ []) → IsCounted (codes "weights") count_limit line
first_next line b =
    let e = b.whole.lines in
    let f : line ≡ weights_line (length b.whole.counts) = cc (e) in
    record { number = length b.whole.counts; within = b.whole.valid.few; spelled = f }

-- how many counts there are, by the first line
pub counts_are : (n : ℕ) (ls : List (List ℕ)) → n ≤ count_limit → (w : IsWhole (weights_line n ∷ ls)) → (length w.counts ≡ n) × (ls ≡ map count_line w.counts)
counts_are n ls few w =
    let e = w.lines in
    let f : weights_line n ≡ weights_line (length w.counts) = cc (e) in
    (sym (counted_one (codes "weights") n (length w.counts) (omega (arith, few)) (omega (arith, w.valid.few)) f), cc (e))

count_next : (n : ℕ) (cs line : List ℕ) → n ≤ count_limit → length cs < n → ((n' : ℕ) → n' ≡ n → Begins IsWhole ((weights_line n ∷ map count_line cs) ++ line ∷ []) → IsCounted (codes "l") 4294967295 line)
count_next n cs line few fewer n' same b =
    let c = counts_are n ((map count_line cs ++ line ∷ []) ++ b.more) few b.whole in
    let r = at_map (λ c. c < 2 ^ 32) count_line b.whole.counts (map count_line cs) line b.more (omega (arith, length-map cs count_line, c.0, fewer)) b.whole.valid.words c.1 in
    record { number = r.0; within = omega (arith, r.1); spelled = r.2 }

-- ---- where a reader stops

-- The lines `front` begin a text, and some line more; but the next line isn't there, or isn't one more.
pub record Stops (bytes : List ℕ) (front : List (List ℕ)) : Type 0 where
  pub rest : List ℕ
  pub spelled : bytes ≡ text_of front ++ rest
  pub next : List ℕ
  pub goes_on : Begins IsWhole (front ++ next ∷ [])
  pub no_line : NoLine (λ line. Begins IsWhole (front ++ line ∷ [])) rest

pub first_stop : (bytes : List ℕ) → NoLine (IsCounted (codes "weights") count_limit) bytes → Stops bytes []
first_stop bytes h = record {
  rest = bytes;
  spelled = refl;
  next = weights_line 0;
  goes_on = begins_counts 0 [] (omega arith) (omega arith) (All-nil (λ c. c < 2 ^ 32));
  no_line = no_line_weaker (IsCounted (codes "weights") count_limit) (λ line. Begins IsWhole (line ∷ [])) bytes (λ l b. first_next l b) h;
}

pub one_line_text : (line rest : List ℕ) → line ++ 10 ∷ rest ≡ text_of (line ∷ []) ++ rest
one_line_text line rest = sym (text_of-cons line [] rest)

-- the bytes after the first line and some counts
pub spelled_counts : (bytes rest rest' : List ℕ) (n : ℕ) (cs : List ℕ) → bytes ≡ weights_line n ++ 10 ∷ rest → rest ≡ text_of (map count_line cs) ++ rest' → bytes ≡ text_of (weights_line n ∷ map count_line cs) ++ rest'
spelled_counts bytes rest rest' n cs e f =
    e ∙ ap (λ r. weights_line n ++ 10 ∷ r) f ∙ sym (text_of-cons (weights_line n) (map count_line cs) rest')

pub count_stop : (bytes rest : List ℕ) (n : ℕ) (cs : List ℕ) → n ≤ count_limit → bytes ≡ weights_line n ++ 10 ∷ rest → StopsAtCount n rest cs → Stops bytes (weights_line n ∷ map count_line cs)
count_stop bytes rest n cs few e s = record {
  rest = s.rest;
  spelled = spelled_counts bytes rest s.rest n cs e s.spelled;
  next = count_line 0;
  goes_on = subst (λ ls. Begins IsWhole (weights_line n ∷ ls)) (map-append count_line cs (0 ∷ []))
      (begins_counts n (cs ++ 0 ∷ []) few (omega (arith, s.fewer, length-append cs (0 ∷ []))) (All-push (λ c. c < 2 ^ 32) cs 0 s.words (omega arith)));
  no_line = no_line_weaker (IsCounted (codes "l") 4294967295) (λ line. Begins IsWhole ((weights_line n ∷ map count_line cs) ++ line ∷ [])) s.rest (λ l b. count_next n cs l few s.fewer n refl b) s.no_line;
}

-- ---- counts, read one by one

pub record HasCounts (bytes rest counts : List ℕ) (i : ℕ) : Type 0 where
  pub words : All (λ c. c < 2 ^ 32) counts
  pub spelled : bytes ≡ text_of (map count_line counts) ++ rest
  pub counted : length counts ≡ i

pub no_counts : (bytes : List ℕ) (cs : List ℕ) → cs ≡ [] → HasCounts bytes bytes cs 0
no_counts bytes cs e = record {
  words = subst (λ (l : List ℕ). All (λ c. c < 2 ^ 32) l) (sym e) (All-nil (λ c. c < 2 ^ 32));
  spelled = ap (λ l. text_of (map count_line l) ++ bytes) (sym e);
  counted = ap length e;
}

pub one_count_more : (bytes rest rest' cs cs' line : List ℕ) (i c : ℕ) → HasCounts bytes rest cs i → rest ≡ line ++ 10 ∷ rest' → line ≡ count_line c → c < 2 ^ 32 → cs' ≡ cs ++ c ∷ [] → HasCounts bytes rest' cs' (i + 1)
one_count_more bytes rest rest' cs cs' line i c h e f small pushed = record {
  words = subst (λ (l : List ℕ). All (λ x. x < 2 ^ 32) l) (sym pushed) (All-push (λ x. x < 2 ^ 32) cs c h.words small);
  spelled = h.spelled ∙ ap (λ r. text_of (map count_line cs) ++ r) (e ∙ ap (λ l. l ++ 10 ∷ rest') f)
      ∙ sym (text_of-push (map count_line cs) (count_line c) rest') ∙ ap (λ ls. text_of ls ++ rest') (sym (map-append count_line cs (c ∷ [])) ∙ ap (map count_line) (sym pushed));
  counted = omega (arith, ap length pushed, length-append cs (c ∷ []), h.counted);
}

pub count_fault : (n : ℕ) (bytes rest cs : List ℕ) (i number : ℕ) → HasCounts bytes rest cs i → i < n → number ≡ i + 2 → NoLine (IsCounted (codes "l") 4294967295) rest → IsCountFault n bytes (Bad number)
count_fault n bytes rest cs i number h less e none = (
  cs,
  omega (arith, e, h.counted),
  record { rest = rest; fewer = omega (arith, h.counted, less); words = h.words; spelled = h.spelled; no_line = none },
)
