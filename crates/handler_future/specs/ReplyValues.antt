-- What a register holds of the replies to a step's calls.
use Rattle.std.specs.Prelude.{ℕ, List, [], ◌∷◌, codes, Result, Ok, Err, true, false}
use Rattle.serde_json.specs.Data.{Data, boolean, array, object, Items, no_items, item, member, no_members}
use Rattle.rpc_messages.specs.Texts.{error_data, standard_error}
use Rattle.rpc_messages.specs.declared.error_value.ErrorValue.{ErrorValue}
use Rattle.rpc_messages.specs.declared.reply.Reply.{Reply}
use Rattle.rpc_messages.specs.declared.reply.Reply.TheVariants.{Done, Error, Standard as Fixed}
use Rattle.message_ids.specs.declared.standard.Standard.TheVariants.{NoReply}
use Rattle.method_templates.specs.declared.step.OnError.{OnError}
use Rattle.method_templates.specs.declared.step.OnError.TheVariants.{Fail, Keep}
use Rattle.method_templates.specs.Steps.{Step}
use Rattle.method_templates.specs.declared.step.Step.TheVariants as step
use Rattle.handler_future.specs.Results.{and_then}

-- the register that the step puts a value into
abbrev pub register_of : Step → List ℕ
register_of (step.Set to value) = to
register_of (step.Add to left right) = to
register_of (step.Call to method params on_error) = to
register_of (step.Calls to list on_error) = to
register_of (step.Each to over method on_error) = to
register_of _ = []

-- what an error reply does at the step
abbrev pub on_error_of : Step → OnError
on_error_of (step.Call to method params on_error) = on_error
on_error_of (step.Calls to list on_error) = on_error
on_error_of (step.Each to over method on_error) = on_error
on_error_of _ = Fail

-- with `keep`, a result and an error are told by an object each
abbrev pub kept_result : Data → Data
kept_result d = object (member (codes "ok") (boolean true) (member (codes "result") d no_members))

abbrev pub kept_error : ErrorValue → Data
kept_error e = object (member (codes "error") (error_data e) (member (codes "ok") (boolean false) no_members))

-- the value of one reply, or the error reply that ends the method
abbrev pub kept_reply : OnError → Reply → Result Data Reply
kept_reply Fail (Done d) = Ok d
kept_reply Fail (Error e) = Err (Error e)
kept_reply Fail (Fixed s) = Err (Fixed s)
kept_reply Keep (Done d) = Ok (kept_result d)
kept_reply Keep (Error e) = Ok (kept_error e)
kept_reply Keep (Fixed s) = Ok (kept_error (standard_error s))

-- the values of replies in their order, or the first error reply that ends the method
abbrev pub kept_items : OnError → List Reply → Result Items Reply
kept_items on_error [] = Ok no_items
kept_items on_error (r ∷ rs) = and_then (kept_reply on_error r) (λ d. and_then (kept_items on_error rs) (λ ds. Ok (item d ds)))

abbrev pub kept_array : OnError → List Reply → Result Data Reply
kept_array on_error rs = and_then (kept_items on_error rs) (λ ds. Ok (array ds))

abbrev pub kept_first : OnError → List Reply → Result Data Reply
kept_first on_error [] = Err (Fixed NoReply)
kept_first on_error (r ∷ rs) = kept_reply on_error r

-- what the replies to a step's calls leave: `call` has one, and the others an array of them
abbrev pub value_of_replies : Step → List Reply → Result Data Reply
value_of_replies (step.Call to method params on_error) rs = kept_first on_error rs
value_of_replies s rs = kept_array (on_error_of s) rs
