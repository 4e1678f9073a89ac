-- Ids that are read in the same way are the same.
use Rattle.std.proofs.Common.{◌≡◌, ℕ, ℤ, List, true, Some, None, option_and_then, is_some, refl, sym, ◌∙◌, rules}
use Rattle.std.proofs.lemmas.Bool.{false≢true}
use Rattle.std.proofs.lemmas.Option.{none-some}
use Rattle.serde_json.specs.Data.{unsigned, negative, float, Data, null, boolean, number, string, array, object}
use Rattle.serde_json.specs.View.{view}
use Rattle.serde_json.specs.declared.value.Value.{Null, the_lemmas}
use Rattle.serde_json.specs.Find.{as_null, as_str, as_number, as_u64, as_i64}

pub view_null : view Null ≡ null
view_null = search (rules, the_lemmas)

of_null : (d : Data) → is_some (as_null d) ≡ true → d ≡ null
of_null null h = refl
of_null (boolean b) h = absurd (false≢true h)
of_null (number n) h = absurd (false≢true h)
of_null (string s) h = absurd (false≢true h)
of_null (array ds) h = absurd (false≢true h)
of_null (object ms) h = absurd (false≢true h)

of_text : (d : Data) (s : List ℕ) → as_str d ≡ Some s → d ≡ string s
of_text null s h = absurd (none-some s h)
of_text (boolean b) s h = absurd (none-some s h)
of_text (number n) s h = absurd (none-some s h)
of_text (string t) s h = let both : Some t ≡ Some s = h in cc
of_text (array ds) s h = absurd (none-some s h)
of_text (object ms) s h = absurd (none-some s h)

of_unsigned : (d : Data) (n : ℕ) → option_and_then as_u64 (as_number d) ≡ Some n → d ≡ number (unsigned n)
of_unsigned null n h = absurd (none-some n h)
of_unsigned (boolean b) n h = absurd (none-some n h)
of_unsigned (number (unsigned m)) n h = let both : Some m ≡ Some n = h in cc
of_unsigned (number (negative z)) n h = absurd (none-some n h)
of_unsigned (number (float x)) n h = absurd (none-some n h)
of_unsigned (string s) n h = absurd (none-some n h)
of_unsigned (array ds) n h = absurd (none-some n h)
of_unsigned (object ms) n h = absurd (none-some n h)

of_negative : (d : Data) (z : ℤ) → option_and_then as_u64 (as_number d) ≡ None → option_and_then as_i64 (as_number d) ≡ Some z → d ≡ number (negative z)
of_negative null z g h = absurd (none-some z h)
of_negative (boolean b) z g h = absurd (none-some z h)
of_negative (number (unsigned m)) z g h = absurd (none-some m (sym g))
of_negative (number (negative y)) z g h = let both : Some y ≡ Some z = h in cc
of_negative (number (float x)) z g h = absurd (none-some z h)
of_negative (string s) z g h = absurd (none-some z h)
of_negative (array ds) z g h = absurd (none-some z h)
of_negative (object ms) z g h = absurd (none-some z h)

pub same_null : (d e : Data) → is_some (as_null d) ≡ true → is_some (as_null e) ≡ true → d ≡ e
same_null d e g h = of_null d g ∙ sym (of_null e h)

pub same_text : (d e : Data) (s : List ℕ) → as_str d ≡ Some s → as_str e ≡ Some s → d ≡ e
same_text d e s g h = of_text d s g ∙ sym (of_text e s h)

pub same_unsigned : (d e : Data) (n : ℕ) → option_and_then as_u64 (as_number d) ≡ Some n → option_and_then as_u64 (as_number e) ≡ Some n → d ≡ e
same_unsigned d e n g h = of_unsigned d n g ∙ sym (of_unsigned e n h)

pub same_negative : (d e : Data) (z : ℤ) → option_and_then as_u64 (as_number d) ≡ None → option_and_then as_u64 (as_number e) ≡ None → option_and_then as_i64 (as_number d) ≡ Some z → option_and_then as_i64 (as_number e) ≡ Some z → d ≡ e
same_negative d e z small other g h = of_negative d z small g ∙ sym (of_negative e z other h)
