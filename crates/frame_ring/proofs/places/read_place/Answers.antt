use Rattle.std.proofs.Common.{rules, ◌≡◌, ℕ, Ok, Err, Result, MatchResult, List, ap, ◌∙◌, sym}
use Rattle.report.specs.declared.report.Report.{Report}
use Rattle.report.specs.declared.refusal.Refusal.{Refusal}
use Rattle.frame.specs.Frame.{decode, blank, FrameRead, FrameRefused}
use Rattle.frame.proofs.Sound.{decode_fault}
use Rattle.frame_ring.proofs.Written.{is_place}
use Rattle.frame_ring.proofs.places.read_place.Goals as goal

-- what a frame's bytes mean, or the blank report
read : {R : Type 0} (part : List ℕ) (o : Result R Refusal) (report : R → Report) (after : R → List ℕ) (x : Report) → MatchResult o (λ p. FrameRead part (report p) (after p)) (λ e. FrameRefused part e) → MatchResult o (λ p. x ≡ report p) (λ _. x ≡ blank) → x ≡ decode part
read part (Ok p) report after x so is = is ∙ so.means
read part (Err e) report after x so is = is ∙ sym (decode_fault part so.cause so.first)

pub returns : goal.returns
returns c =
    let x = c.map_or.result in
    let is : MatchResult c.read.result (λ p. x ≡ p.0) (λ _. x ≡ blank) = search rules in
    read _ c.read.result (λ p. p.0) (λ p. p.1.now) x c.read.ensures is ∙ ap decode (is_place c.args.bytes.now c.args.i)
