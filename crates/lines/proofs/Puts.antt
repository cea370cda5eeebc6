-- Texts that are put one after another. Assumes nothing.
use Rattle.std.proofs.Common.{◌≡◌, ℕ, ◌+◌, ◌<◌, ◌≤◌, List, [], ◌++◌, length, take, drop, sym, ap, ◌∙◌, subst, append_assoc, append-nil, refl, arith, length-append, length-drop}
use Rattle.std.proofs.lemmas.List.{drop-drop}
use Rattle.std.proofs.lemmas.Slice.{take-put_mid, drop-put_mid}
use borrow.Rule.Slice.PartMut.{put_mid}
use Rattle.lines.specs.declared.page.Page.{Page}
use Rattle.lines.specs.Page.{text, behind, SameLender, Adds}

-- one text, and the next behind it
pub adds_then : {p q r : Page} {a b : List ℕ} → Adds p a q → Adds q b r → Adds p (a ++ b) r
adds_then {p} {q} {r} {a} {b} one two = record {
  text = two.text ∙ ap (λ l. l ++ b) one.text ∙ append_assoc _ a b;
  behind = two.behind ∙ ap (drop (length b)) one.behind ∙ drop-drop (length b) (length a) _ ∙ ap (λ n. drop n (behind p)) (sym (length-append a b));
  room = omega (arith, one.room, two.room, length-append a b);
  lender = two.lender ∙ one.lender;
}

pub adds_none : (p : Page) → Adds p [] p
adds_none p = record { text = sym (append-nil (text p)); behind = refl; room = omega arith; lender = refl }

pub adds_is : {p q : Page} {a b : List ℕ} → a ≡ b → Adds p a q → Adds p b q
adds_is {p} {q} e = subst (λ l. Adds p l q) e

-- bs is written over the bytes behind the text
pub adds_written : {p q : Page} {bs ys : List ℕ} {k : ℕ} → q.bytes.now ≡ put_mid p.end k p.bytes.now ys → q.end ≡ p.end + length bs → SameLender p q → ys ≡ bs → k ≡ length bs → p.end + length bs ≤ length p.bytes.now → Adds p bs q
adds_written {p} {q} {bs} {ys} {k} wrote ends lender is long fits =
    let xs = p.bytes.now in
    let after : behind q ≡ drop (length bs) (behind p) =
    (λ i. drop (ends i) (wrote i)) ∙ drop-put_mid p.end k xs ys (p.end + length bs) (omega arith) p.inside (ap length is ∙ sym long) ∙ sym (drop-drop (length bs) p.end xs) in
    record {
      text = (λ i. take (ends i) (wrote i)) ∙ take-put_mid p.end k xs ys (p.end + length bs) (omega (arith, ap length is)) p.inside ∙ ap (λ l. take p.end xs ++ l) is;
      behind = after;
      room = omega (arith, ap length after, length-drop (length bs) (behind p), length-drop p.end xs);
      lender = lender;
    }

pub ruleset puts = (adds_then, length-append)
