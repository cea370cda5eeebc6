use Rattle.std.proofs.Common.{◌≡◌, ℕ, ◌+◌, ◌<◌, List, length, get_or, drop, Err, sym, ◌∙◌, subst, arith}
use Rattle.std.proofs.lemmas.List.{drop_more}
use Rattle.report.specs.declared.report.Report.{Report}
use Rattle.link.specs.Links.{View, Sends}
use Rattle.piles.specs.declared.batches.Unsent.{Unsent}
use Rattle.piles.specs.Batches.{SentFirst, RefusedNext}
use Rattle.std.proofs.lemmas.Result.{err_from_is_err_and}
use Rattle.piles.proofs.Kept.{sent_calls}
use Rattle.piles.proofs.Wholes.{learned}
use Rattle.piles.proofs.batches.send_all.Goals as goal

-- the next one is refused, with what the send answers
stopped : (v u w : View) (rs : List Report) (n : ℕ) (d : Report) (x : Unsent) → n < length rs → SentFirst v rs n u → x.count ≡ n → Sends u (get_or rs n d) (Err x.refusal) w → SentFirst v rs x.count w × RefusedNext x.refusal w rs x.count
stopped v u w rs n d x lt so at given =
    let same : w ≡ u = given.1 in
    subst (λ m. SentFirst v rs m w × RefusedNext x.refusal w rs m) (sym at) (
      record { few = so.few; room = so.room; admitted = so.admitted; is = same ∙ so.is },
      record { next = get_or rs n d; others = drop (n + 1) rs; left = drop_more rs n d lt; why = subst (λ y. Sends y (get_or rs n d) (Err x.refusal) w) (sym same) given },
    )

pub returns-in_err-send_at : goal.returns-in_err-send_at
returns-in_err-send_at g c =
    let view = g.L.Link.view in
    let p = err_from_is_err_and c.from_residual.result c.from_residual.ensures.1 in
    let unsent = c.in_err-send_at.field-0.0 in
    let both = stopped (view c.args.link.now) (view c.loop-count.link) (view c.send_at.new.link) c.args.reports.now c.loop-count.count _ unsent (omega arith) c.loop-count.invariant c.in_err-send_at.ensures.0 c.in_err-send_at.ensures.1 in
    rw (p.1, p.2) record {
      sent = both.0;
      stops = both.1;
      calls = sent_calls (view c.args.link.now) (view c.send_at.new.link) c.args.reports.now unsent.count both.0;
      fills = λ none all. (learned view g.L.Link.whole).fills c.args.link.now c.send_at.new.link _ _ _ none all both.0 both.1;
    }

pub returns-clause-calls : goal.returns-clause-calls
returns-clause-calls g c =
    let view = g.L.Link.view in
    let all : c.loop-count.count ≡ length c.args.reports.now = omega arith in
    sent_calls (view c.args.link.now) (view c.loop-count.link) c.args.reports.now _ (rw (← all) c.loop-count.invariant)
