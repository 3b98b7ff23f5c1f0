-- What a step does with the registers as they stand, by its kind. The replies to its calls are left aside here.
use Rattle.std.specs.Prelude.{ℕ, ◌^◌, ◌+ℤ◌, ℤ, pos, negsuc, nat_lt, nat_le, length, List, [], ◌∷◌, Option, Some, None, option_and_then, Result, Ok, Err, ok_or, Bool, if◌then◌else◌}
use Rattle.std.specs.Str.{bytes_eq}
use Rattle.serde_json.specs.Data.{Data, null, boolean, number, string, array, object, Items, no_items, item, Members}
use Rattle.serde_json.specs.Find.{as_number, as_i64, as_array, of_integer}
use Rattle.serde_json.specs.Written.{compact_text}
use Rattle.rpc_messages.specs.declared.outgoing.Outgoing.{Outgoing}
use Rattle.rpc_messages.specs.declared.reply.Reply.TheVariants.{Done, Error, Standard as Fixed}
use Rattle.message_ids.specs.declared.standard.Standard.{Standard}
use Rattle.message_ids.specs.declared.standard.Standard.TheVariants.{InvalidParams, InternalError}
use Rattle.method_templates.specs.declared.filling.FillFault.{FillFault}
use Rattle.method_templates.specs.declared.filling.FillFault.TheVariants as fault
use Rattle.method_templates.specs.declared.limits.TheConstants.{MOST_LISTED}
use Rattle.method_templates.specs.declared.step.ListedCall.{ListedCall}
use Rattle.method_templates.specs.Steps.{Step}
use Rattle.method_templates.specs.declared.step.Step.TheVariants as step
use Rattle.method_templates.specs.Shape.{Shape}
use Rattle.method_templates.specs.Value.{value_of}
use Rattle.handler_future.specs.declared.act.Act.{Act}
use Rattle.handler_future.specs.declared.act.Act.TheVariants.{Put, Skip, Notify, Call, Calls, End}
use Rattle.handler_future.specs.Results.{and_then}

-- ---- values, or the error that ends the method

-- a missing place in `params` is the caller's fault; any other is the method's own
abbrev pub error_at : FillFault → Standard
error_at fault.Params = InvalidParams
error_at fault.Missing = InternalError
error_at fault.Memory = InternalError

abbrev pub or_error : {A : Type 0} → Result A FillFault → Result A Standard
or_error (Ok a) = Ok a
or_error (Err e) = Err (error_at e)

abbrev pub template_value : Members → Shape → Result Data Standard
template_value registers t = or_error (value_of registers t)

-- ---- sums

abbrev pub integer_in : Data → Result ℤ Standard
integer_in d = ok_or (option_and_then as_i64 (as_number d)) InvalidParams

-- the numbers of i64
abbrev pub is_i64 : ℤ → Bool
is_i64 (pos n) = nat_lt n (2 ^ 63)
is_i64 (negsuc n) = nat_lt n (2 ^ 63)

abbrev pub number_of : ℤ → Result Data Standard
number_of z = if is_i64 z then Ok (number (of_integer z)) else Err InternalError

-- both operands are filled, and then both are judged
abbrev pub sum_of : Members → Shape → Shape → Result Data Standard
sum_of registers left right =
    and_then (template_value registers left) (λ a. and_then (template_value registers right) (λ b.
    and_then (integer_in a) (λ x. and_then (integer_in b) (λ y. number_of (x +ℤ y)))))

-- ---- skips

-- whether both values have the same text with no space
abbrev pub are_alike : Members → Shape → Shape → Result Bool Standard
are_alike registers left right =
    and_then (template_value registers left) (λ a. and_then (template_value registers right) (λ b. Ok (bytes_eq (compact_text a) (compact_text b))))

-- ---- what goes out

-- params are an array or an object (JSON-RPC 2.0, section 4.2)
abbrev pub array_or_object : Data → Result Data Standard
array_or_object null = Err InternalError
array_or_object (boolean b) = Err InternalError
array_or_object (number n) = Err InternalError
array_or_object (string s) = Err InternalError
array_or_object (array ds) = Ok (array ds)
array_or_object (object ms) = Ok (object ms)

abbrev pub params_from : Members → Option Shape → Result (Option Data) Standard
params_from registers None = Ok None
params_from registers (Some t) = and_then (template_value registers t) (λ d. and_then (array_or_object d) (λ e. Ok (Some e)))

abbrev pub outgoing_of : Members → List ℕ → Option Shape → Result Outgoing Standard
outgoing_of registers method params = and_then (params_from registers params) (λ p. Ok (record { method = method; params = p }))

-- the calls of a list in its order; the first fault counts
abbrev pub outgoings_of : Members → List ListedCall → Result (List Outgoing) Standard
outgoings_of registers [] = Ok []
outgoings_of registers (c ∷ cs) =
    and_then (outgoing_of registers c.method c.params) (λ o. and_then (outgoings_of registers cs) (λ os. Ok (o ∷ os)))

-- ---- one call for each element

-- its params are the array of the element
abbrev pub call_for : List ℕ → Data → Outgoing
call_for method d = record { method = method; params = Some (array (item d no_items)) }

abbrev pub calls_for : List ℕ → Items → List Outgoing
calls_for method no_items = []
calls_for method (item d ds) = call_for method d ∷ calls_for method ds

-- an array has at most as many elements as a batch has calls; any other value is the caller's fault
abbrev pub calls_for_array : List ℕ → Option Items → Result (List Outgoing) Standard
calls_for_array method None = Err InvalidParams
calls_for_array method (Some ds) = if nat_le (length (calls_for method ds)) MOST_LISTED then Ok (calls_for method ds) else Err InvalidParams

abbrev pub calls_for_each : List ℕ → Data → Result (List Outgoing) Standard
calls_for_each method over = calls_for_array method (as_array over)

-- no message for no call: the register gets the empty array at once
abbrev pub act_of_calls : List Outgoing → Act
act_of_calls [] = Put (array no_items)
act_of_calls (o ∷ os) = Calls (o ∷ os)

-- ---- steps

-- each kind
abbrev pub act_or_error : Members → Step → Result Act Standard
act_or_error registers (step.Set to value) = and_then (template_value registers value) (λ d. Ok (Put d))
act_or_error registers (step.Add to left right) = and_then (sum_of registers left right) (λ d. Ok (Put d))
act_or_error registers (step.Skip left right count) = and_then (are_alike registers left right) (λ alike. Ok (Skip (if alike then count else 0)))
act_or_error registers (step.Call to method params on_error) = and_then (outgoing_of registers method params) (λ o. Ok (Call o))
act_or_error registers (step.Calls to list on_error) = and_then (outgoings_of registers list) (λ os. Ok (Calls os))
act_or_error registers (step.Each to over method on_error) =
    and_then (template_value registers over) (λ d. and_then (calls_for_each method d) (λ os. Ok (act_of_calls os)))
act_or_error registers (step.Notify method params) = and_then (outgoing_of registers method params) (λ o. Ok (Notify o))
act_or_error registers (step.Answer value) = and_then (template_value registers value) (λ d. Ok (End (Done d)))
act_or_error registers (step.Fail code message) = Ok (End (Error (record { code = code; message = message; extra = None })))

abbrev pub or_end : Result Act Standard → Act
or_end (Ok a) = a
or_end (Err s) = End (Fixed s)

-- what the step does; its fault ends the method
abbrev pub act_of : Members → Step → Act
act_of registers s = or_end (act_or_error registers s)
