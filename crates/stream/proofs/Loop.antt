-- Frames told one after another. Assumes nothing.
use Rattle.std.proofs.Common.{◌≡◌, ℕ, suc, ◌<◌, Bool, true, false, cond, List, [], ◌∷◌, ◌++◌, length, take, drop, sym, refl, ap, ◌∙◌, subst, append_assoc, append-nil, arith, length-append, length-take}
use Rattle.std.proofs.lemmas.List.{take_at, drop_at}
use Rattle.lines.specs.declared.page.Page.{Page}
use Rattle.lines.specs.Page.{text, StartsIn, Adds}
use Rattle.lines.proofs.Puts.{adds_then, adds_none}
use Rattle.frame.specs.Frame.{frame_size}
use Rattle.stream.specs.declared.tally.Tally.{Tally}
use Rattle.stream.specs.Told.{Progress, Told, nothing, tell_one, then_tell, tell, frames_in, tell_frames, tell_end, unless_ended}
use Rattle.stream.specs.Stands.{Stands, PutsOn, Puts}

-- a text before what is told
abbrev pub joined_to : List ℕ → Told → Told
joined_to t x = record { text = t ++ x.text; progress = x.progress }

-- how far the frames of a block are told: the text so far is put, and the rest of the block is what is left to tell
pub record SoFar (f : Progress → Told) (p : Progress) (old page : Page) (t : Tally) (rest : List ℕ) : Type 0 where
  pub text : List ℕ
  pub reached : Progress
  pub adds : Adds old text page
  pub stands : Stands t reached
  pub left : f p ≡ joined_to text (unless_ended (tell_frames rest) reached)

-- a frame and what comes after it
module _ (rest frame after : List ℕ) (parts : rest ≡ frame ++ after) (one : length frame ≡ frame_size) where
  pub fewer_frames : frames_in rest ≡ suc (frames_in after)
  fewer_frames = omega (arith, ap length parts, length-append frame after)

  frames_then : (q : Progress) → tell_frames rest q ≡ then_tell (tell_one frame q) (tell_frames after)
  frames_then q =
      ap (λ n. tell n rest q) fewer_frames ∙ ap (λ b. tell (suc (frames_in after)) b q) parts
      ∙ (λ i. then_tell (tell_one (take_at frame after frame_size one i) q) (tell (frames_in after) (drop_at frame after frame_size one i)))

-- a frame, and those after it
then_more : (t : List ℕ) (x : Told) (f : Progress → Told) → joined_to t (then_tell x f) ≡ joined_to (t ++ x.text) (unless_ended f x.progress)
then_more t x f = go x.progress.ended refl
  where
    go : (v : Bool) → x.progress.ended ≡ v → joined_to t (cond v x (record { text = x.text ++ (f x.progress).text; progress = (f x.progress).progress })) ≡ joined_to (t ++ x.text) (cond v (nothing x.progress) (f x.progress))
    go true e = ap (λ l. record { text = l; progress = x.progress }) (sym (append-nil (t ++ x.text)))
    go false e = ap (λ l. record { text = l; progress = (f x.progress).progress }) (sym (append_assoc t x.text (f x.progress).text))

unless_not : (f : Progress → Told) (q : Progress) → q.ended ≡ false → unless_ended f q ≡ f q
unless_not f q e = ap (λ v. cond v (nothing q) (f q)) e

module _ (f : Progress → Told) (p : Progress) (old : Page) where
  pub so_far_more : (page new : Page) (t t' : Tally) (rest frame after : List ℕ) → t.ended ≡ false → rest ≡ frame ++ after → length frame ≡ frame_size → ((q : Progress) → Stands t q → PutsOn (tell_one frame q) page new t') → SoFar f p old page t rest → SoFar f p old new t' after
  so_far_more page new t t' rest frame after on parts one told s =
      let q : Progress = s.reached in
      let x : Told = tell_one frame q in
      let puts = told q s.stands in
      record {
        text = s.text ++ x.text;
        reached = x.progress;
        adds = adds_then s.adds puts.text;
        stands = puts.stands;
        left =
            s.left
            ∙ (ap (joined_to s.text) (unless_not (tell_frames rest) q (sym s.stands.ended ∙ on) ∙ frames_then rest frame after parts one q)
            ∙ then_more s.text x (tell_frames after));
      }

  all_told : (s : Told) (text : List ℕ) (q : Progress) → s ≡ joined_to text (nothing q) → s ≡ record { text = text; progress = q }
  all_told s text q e = e ∙ ap (λ l. record { text = l; progress = q }) (append-nil text)

  ended_puts : (page : Page) (t : Tally) (rest : List ℕ) (s : SoFar f p old page t rest) → unless_ended (tell_frames rest) s.reached ≡ nothing s.reached → PutsOn (f p) old page t
  ended_puts page t rest s e =
      let whole = all_told (f p) s.text s.reached (s.left ∙ ap (joined_to s.text) e) in
      subst (λ x. PutsOn x old page t) (sym whole) (record { text = s.adds; stands = s.stands })

  -- a fault ended it, or no whole frame is left
  pub so_far_ended : (page : Page) (t : Tally) (rest : List ℕ) → t.ended ≡ true → SoFar f p old page t rest → PutsOn (f p) old page t
  so_far_ended page t rest over s = ended_puts page t rest s (ap (λ v. cond v (nothing s.reached) (tell_frames rest s.reached)) (sym s.stands.ended ∙ over))

  pub so_far_all : (page : Page) (t : Tally) (rest : List ℕ) → length rest < frame_size → SoFar f p old page t rest → PutsOn (f p) old page t
  so_far_all page t rest short s =
      let none : frames_in rest ≡ 0 = omega arith in
      ended_puts page t rest s (go s.reached.ended (ap (λ n. tell n rest s.reached) none))
    where
      go : (v : Bool) → tell_frames rest s.reached ≡ nothing s.reached → cond v (nothing s.reached) (tell_frames rest s.reached) ≡ nothing s.reached
      go true e = refl
      go false e = e

-- nothing is told, and nothing put
pub nothing_puts : (f : Progress → Told) (p : Progress) (out : List ℕ) (t : Tally) → f p ≡ nothing p → Stands t p → Puts (f p) out 0 out t
nothing_puts f p out t e s = subst (λ x. Puts x out 0 out t) (sym e) (record { ends = refl; front = refl; rest = refl; same = refl; stands = s })

-- what was put on a page from its start stands at the front of the lent bytes
pub page_puts : {told : Told} {lent now : List ℕ} {old new : Page} {t : Tally} {end : ℕ} → StartsIn lent old → PutsOn told old new t → end ≡ length (text new) → length now ≡ length lent → now ≡ new.bytes.now → Puts told lent end now t
page_puts {told} {lent} {now} {old} {new} {t} {end} starts puts ends same is =
    let said : text new ≡ told.text = puts.text.text ∙ ap (λ l. l ++ told.text) starts.text in
    let at : new.end ≡ end = omega (arith, ends, new.inside, length-take new.end new.bytes.now) in
    let long : end ≡ length told.text = ends ∙ ap length said in
    record {
      ends = long;
      front = (λ i. take (sym at i) (is i)) ∙ said;
      rest = (λ i. drop (sym at i) (is i)) ∙ puts.text.behind ∙ (λ i. drop (sym long i) (starts.behind i));
      same = same;
      stands = puts.stands;
    }

pub unless_true : (f : Progress → Told) (p : Progress) → p.ended ≡ true → unless_ended f p ≡ nothing p
unless_true f p e = ap (λ v. cond v (nothing p) (f p)) e

-- at the end of an input
pub end_none : (b : List ℕ) (p : Progress) → length b ≡ 0 → unless_ended (tell_end b) p ≡ nothing p
end_none [] p e = go p.ended
  where
    go : (v : Bool) → cond v (nothing p) (nothing p) ≡ nothing p
    go true = refl
    go false = refl
end_none (x ∷ b) p e = absurd (omega arith)

end_some : (b : List ℕ) (p : Progress) → 0 < length b → tell_end b p ≡ tell_one b p
end_some [] p lt = absurd (omega arith)
end_some (x ∷ b) p lt = refl

pub end_puts : (b : List ℕ) (p : Progress) (old new : Page) (t t' : Tally) → 0 < length b → t.ended ≡ false → Stands t p → PutsOn (tell_one b p) old new t' → PutsOn (unless_ended (tell_end b) p) old new t'
end_puts b p old new t t' lt on s puts = subst (λ x. PutsOn x old new t') (sym (unless_not (tell_end b) p (sym s.ended ∙ on) ∙ end_some b p lt)) puts

pub so_far_first : (f : Progress → Told) (p : Progress) (page : Page) (t : Tally) (rest : List ℕ) → f p ≡ unless_ended (tell_frames rest) p → Stands t p → SoFar f p page page t rest
so_far_first f p page t rest e s = record { text = []; reached = p; adds = adds_none page; stands = s; left = e }
