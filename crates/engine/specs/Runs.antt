-- Records of calls, and a run of them. Assumes nothing.
use Rattle.std.specs.Prelude.{◌≡◌, List, map}
use Rattle.link.specs.Links.{View}
use Rattle.rules.specs.declared.call.Call.{Call}
use Rattle.rules.specs.declared.call.Reply.{Reply}
use Rattle.rules.specs.Steps.{State, Run}
use Rattle.engine.specs.declared.whole_run.CallRecord.{CallRecord}

-- the calls of some records, and their replies
abbrev pub calls_of : List CallRecord → List Call
calls_of xs = map (λ x. x.call) xs

abbrev pub replies_of : List CallRecord → List Reply
replies_of xs = map (λ x. x.reply) xs

-- Each call in its turn, by the rules, from a state on; the link then means v.
pub record Ran (from : State) (calls : List Call) (replies : List Reply) (v : View) : Type 0 where
  pub end : State
  pub runs : Run from calls replies end
  pub link : end.view ≡ v
