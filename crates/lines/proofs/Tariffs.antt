-- One tariff more at the end. Assumes nothing.
use Rattle.std.proofs.Common.{◌≡◌, ℕ, zero, suc, ◌+◌, ◌<◌, ◌≤◌, List, ◌++◌, length, get_or, take, sym, ap, ◌∙◌, append_assoc, append-nil, add_comm, add-one, arith, refl}
use Rattle.std.proofs.lemmas.List.{get_or-take}
use Rattle.account.specs.Records.{ticks_of}
use Rattle.lines.specs.Line.{tariff_text, tariffs_text}

tariffs_push : (k n : ℕ) (f : ℕ → ℕ) → tariffs_text k (suc n) f ≡ tariffs_text k n f ++ tariff_text (k + n) (f (k + n))
tariffs_push k zero f =
    let e : k ≡ k + 0 = omega arith in
    append-nil (tariff_text k (f k)) ∙ ap (λ i. tariff_text i (f i)) e
tariffs_push k (suc n) f =
    let e : k + 1 + n ≡ k + suc n = omega arith in
    ap (λ l. tariff_text k (f k) ++ l) (tariffs_push (k + 1) n f ∙ ap (λ i. tariffs_text (k + 1) n f ++ tariff_text i (f i)) e)
    ∙ sym (append_assoc (tariff_text k (f k)) (tariffs_text (k + 1) n f) (tariff_text (k + suc n) (f (k + suc n))))

-- the ticks of tariff i + 1 are the i-th of the list
pub tariffs_more : (ts : List ℕ) (i : ℕ) → i < length ts → tariffs_text 1 i (ticks_of ts) ++ tariff_text (i + 1) (get_or ts i 0) ≡ tariffs_text 1 (i + 1) (ticks_of ts)
tariffs_more ts i lt =
    let one : i + 1 ≡ 1 + i = omega arith in
    let at : get_or ts i 0 ≡ ticks_of ts (1 + i) = sym (ap (ticks_of ts) (add_comm 1 i ∙ add-one i)) in
    (λ j. tariffs_text 1 i (ticks_of ts) ++ tariff_text (one j) (at j))
    ∙ (sym (tariffs_push 1 i (ticks_of ts)) ∙ ap (λ m. tariffs_text 1 m (ticks_of ts)) (sym (add-one i)))

-- the first tariffs of a list are those of its front
pub tariffs_front : (ts : List ℕ) (n i : ℕ) → i ≤ n → tariffs_text 1 i (ticks_of (take n ts)) ≡ tariffs_text 1 i (ticks_of ts)
tariffs_front ts n zero le = refl
tariffs_front ts n (suc i) le =
    let at : ticks_of (take n ts) (1 + i) ≡ ticks_of ts (1 + i) =
    ap (ticks_of (take n ts)) (add_comm 1 i ∙ add-one i) ∙ (get_or-take n ts i 0 (omega (arith, le)) ∙ sym (ap (ticks_of ts) (add_comm 1 i ∙ add-one i))) in
    tariffs_push 1 i (ticks_of (take n ts))
    ∙ ((λ j. tariffs_front ts n i (omega (arith, le)) j ++ tariff_text (1 + i) (at j))
    ∙ sym (tariffs_push 1 i (ticks_of ts)))
