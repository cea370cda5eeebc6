-- What is told of a report and of a frame. Assumes nothing.
use Rattle.std.proofs.Common.{◌≡◌, ℕ, ◌+◌, ◌-◌, ◌^◌, min, true, List, length, Some, Ok, Err, Option, unwrap_or, sym, refl, ap, ◌∙◌, subst}
use Rattle.report.specs.Refusals.{returned, wrong_at}
use Rattle.report.specs.declared.report.Report.{Report}
use Rattle.report.specs.declared.refusal.Cause.{Cause}
use Rattle.report.specs.declared.refusal.Refusal.{Refusal}
use Rattle.report.specs.declared.refusal.Refusal.TheVariants.{WrongFrame}
use Rattle.frame.specs.Frame.{frame_size, FrameRead, FrameRefused}
use Rattle.account.specs.Rule.{read_one}
use Rattle.account.specs.Records.{account_of}
use Rattle.account.specs.Follow.{Holds, Follows, status_at}
use Rattle.account.specs.declared.record.AccountRecord.{AccountRecord}
use Rattle.account.specs.declared.record.Reading.{Reading}
use Rattle.lines.specs.Line.{line_text, fault_text}
use Rattle.lines.specs.declared.page.Page.{Page}
use Rattle.lines.specs.Page.{Adds}
use Rattle.lines.specs.declared.line.Layer.TheVariants.{Frame as FrameLayer, Account as AccountLayer}
use Rattle.stream.specs.declared.tally.Tally.{Tally}
use Rattle.stream.specs.Told.{Progress, further, reading_text, after_rule, after_reader, tell_one}
use Rattle.stream.specs.Stands.{Stands, PutsOn}

module _ (t : Tally) (p : Progress) (r : Report) (records : List AccountRecord) (old new : Page) (stands : Stands t p) where
  pub told_reading : (x : Reading) (place : ℕ) → Follows p.book r (Ok x) records → x.account.address ≡ r.address → place ≡ min (t.place + frame_size) (2 ^ 64 - 1) → Adds old (line_text x.account.address r.number x.status (account_of x.account)) new → PutsOn (after_rule r p (read_one r p.book)) old new (record { records = records; place = place; ended = t.ended })
  told_reading x place (b, is, holds, shown, status) address further_on adds =
      subst (λ o. PutsOn (after_rule r p o) old new (record { records = records; place = place; ended = t.ended })) (sym is) (record {
        text =
            subst (λ acc. Adds old (reading_text r (status_at r (p.book r.address).open_at) acc) new) (sym shown)
            (subst (λ s. Adds old (line_text r.address r.number s (account_of x.account)) new) status
            (subst (λ a. Adds old (line_text a r.number x.status (account_of x.account)) new) address adds));
        stands = record { accounts = holds; place = further_on ∙ ap (λ n. further n frame_size) stands.place; ended = stands.ended };
      })

  pub told_refusal : (e : Refusal) → Follows p.book r (Err e) records → records ≡ t.records → Adds old (fault_text AccountLayer e t.place) new → PutsOn (after_rule r p (read_one r p.book)) old new (record { records = records; place = t.place; ended = true })
  told_refusal e is same adds =
      subst (λ o. PutsOn (after_rule r p o) old new (record { records = records; place = t.place; ended = true })) (sym is) (record {
        text = subst (λ n. Adds old (fault_text AccountLayer e n) new) stands.place adds;
        stands = record { accounts = subst (λ xs. Holds xs p.book) (sym same) stands.accounts; place = stands.place; ended = refl };
      })

module _ (t : Tally) (p : Progress) (b : List ℕ) (old new : Page) where
  pub told_frame : (r : Report) (after : List ℕ) (t' : Tally) → FrameRead b r after → PutsOn (after_rule r p (read_one r p.book)) old new t' → PutsOn (tell_one b p) old new t'
  told_frame r after t' read told =
      subst (λ o. PutsOn (after_reader b p o) old new t') (sym read.sound) (subst (λ q. PutsOn (after_rule q p (read_one q p.book)) old new t') read.means told)

  pub told_fault : (e : Refusal) (place : ℕ) → Stands t p → (refused : FrameRefused b e) → place ≡ min (t.place + wrong_at (length b) refused.cause) (2 ^ 64 - 1) → Adds old (fault_text FrameLayer e place) new → PutsOn (tell_one b p) old new (record { records = t.records; place = t.place; ended = true })
  told_fault e place stands refused further_on adds =
      let c : Cause = refused.cause in
      let here : place ≡ further p.place (wrong_at (length b) c) = further_on ∙ ap (λ n. further n (wrong_at (length b) c)) stands.place in
      subst (λ o. PutsOn (after_reader b p o) old new (record { records = t.records; place = t.place; ended = true })) (sym refused.first) (record {
        text =
            subst (λ n. Adds old (fault_text FrameLayer (WrongFrame (record { cause = c; place = wrong_at (length b) c })) n) new) here
            (subst (λ x. Adds old (fault_text FrameLayer x place) new) refused.refused adds);
        stands = record { accounts = stands.accounts; place = stands.place; ended = refl };
      })

-- the place that a wrong frame's refusal carries
pub wrong_place : (b : List ℕ) (e : Refusal) (refused : FrameRefused b e) (o : Option ℕ) (n : ℕ) → o ≡ (returned e).place → o ≡ Some n → n ≡ wrong_at (length b) refused.cause
wrong_place b e refused o n is value = ap (λ x. unwrap_or x 0) (sym value ∙ is ∙ ap (λ x. (returned x).place) refused.refused)
