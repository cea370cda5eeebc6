-- Lists of reports, read one after another. Assumes nothing.
use Rattle.std.proofs.Common.{◌≡◌, ℕ, ◌+◌, ◌<◌, List, [], ◌∷◌, ◌++◌, length, get_or, take, drop, Ok, Err, Result, sym, refl, ap, ◌∙◌}
use Rattle.std.proofs.lemmas.List.{take_more, drop_more, take-append-drop}
use Rattle.report.specs.declared.report.Report.{Report}
use Rattle.account.specs.declared.record.AccountRecord.{AccountRecord}
use Rattle.account.specs.declared.record.Reading.{Reading}
use Rattle.account.specs.declared.record.Stop.{Stop}
use Rattle.account.specs.Rule.{Book, read_one, then_read, read_list}
use Rattle.account.specs.Records.{said, Answers, Leaves}
use Rattle.account.specs.Follow.{Holds, no_report, Through, done, more, ReadsAt, Stopped, Reads, FollowsAll}
use Rattle.account.proofs.Ruling.{follows}

-- one report more
through_push : {xs ys zs : List AccountRecord} {rs : List Report} (r : Report) (x : Reading) → Through xs rs ys → Answers (said ys r) r (Ok x) → Leaves ys r (Ok x) zs → Through xs (rs ++ (r ∷ [])) zs
through_push r x done a l = more x a l done
through_push r x (more y b m rest) a l = more y b m (through_push r x rest a l)

pub through_more : (xs ys zs : List AccountRecord) (rs : List Report) (i : ℕ) (x : Reading) → i < length rs → Through xs (take i rs) ys → Answers (said ys (get_or rs i no_report)) (get_or rs i no_report) (Ok x) → Leaves ys (get_or rs i no_report) (Ok x) zs → Through xs (take (i + 1) rs) zs
through_more xs ys zs rs i x lt h a l = rw (take_more rs i no_report lt) (through_push (get_or rs i no_report) x h a l)

pub stopped_at : (xs ys zs : List AccountRecord) (rs : List Report) (i : ℕ) (s : Stop) → i < length rs → Through xs (take i rs) ys → ReadsAt ys i (get_or rs i no_report) (Err s) zs → Stopped xs rs s zs
stopped_at xs ys zs rs i s lt h (e, is, same) = record { inside = rw is lt; before = rw (is, same) h; refused = rw (is, same) e }

-- reading two lists after each other
read_both : (ps qs : List Report) (b : Book) → read_list (ps ++ qs) b ≡ then_read (read_list ps b) (read_list qs)
read_both [] qs b = refl
read_both (p ∷ ps) qs b = elim (read_one p b) as (λ o. then_read o (read_list (ps ++ qs)) ≡ then_read (then_read o (read_list ps)) (read_list qs)) [ Ok b' ↦ read_both ps qs b' | Err e ↦ refl ]

-- reports that were read at records are read by the rule
through_rule : {xs ys : List AccountRecord} {rs : List Report} → Through xs rs ys → (b : Book) → Holds xs b → (b' : Book) × (read_list rs b ≡ Ok b') × Holds ys b'
through_rule done b h = (b, refl, h)
through_rule (more {xs} {ys} {zs} {r} {rs} x a l rest) b h =
    let one = follows xs ys b r (Ok x) a l h in
    let all = through_rule rest one.0 one.2 in
    (all.0, rw one.1 all.1, all.2)

-- the report that is refused ends the list
pub follows_all : (xs new : List AccountRecord) (rs : List Report) (x : Result (Unit {0}) Stop) → Reads xs rs x new → (b : Book) → Holds xs b → FollowsAll b rs x new
follows_all xs new rs (Ok _) h b old = through_rule h b old
follows_all xs new rs (Err s) h b old =
    let i : ℕ = s.index in
    let r : Report = get_or rs i no_report in
    let sofar = through_rule h.before b old in
    let at = follows new new sofar.0 r (Err s.refusal) h.refused refl sofar.2 in
    let parts : rs ≡ take i rs ++ (r ∷ drop (i + 1) rs) = sym (take-append-drop i rs) ∙ ap (λ qs. take i rs ++ qs) (drop_more rs i no_report h.inside) in
    (rw (parts, read_both, sofar.1, at), sofar)
