-- Calls in their turn. Assumes nothing.
use Rattle.std.proofs.Common.{ℕ, ◌+◌, ◌<◌, List, [], ◌∷◌, ◌++◌, length, take, set}
use Rattle.std.proofs.lemmas.List.{take_more_set, map-append}
use Rattle.rules.specs.declared.call.Call.{Call}
use Rattle.rules.specs.declared.call.Reply.{Reply}
use Rattle.rules.specs.Steps.{State, Does, Run, over, then}
use Rattle.engine.specs.declared.whole_run.CallRecord.{CallRecord}
use Rattle.engine.specs.Runs.{calls_of, replies_of}

-- one call more
run_push : {s m s' : State} {cs : List Call} {rs : List Reply} (c : Call) (r : Reply) → Run s cs rs m → Does c m r s' → Run s (cs ++ (c ∷ [])) (rs ++ (r ∷ [])) s'
run_push c r over d = then d over
run_push c r (then first rest) d = then first (run_push c r rest d)

-- the record at i, whose call is carried out, is written there with its reply
pub run_more : (xs : List CallRecord) (i : ℕ) (x : CallRecord) (s m s' : State) → i < length xs → Run s (calls_of (take i xs)) (replies_of (take i xs)) m → Does x.call m x.reply s'
    → Run s (calls_of (take (i + 1) (set xs i x))) (replies_of (take (i + 1) (set xs i x))) s'
run_more xs i x s m s' lt run does = simp (take_more_set, map-append) (run_push x.call x.reply run does)
