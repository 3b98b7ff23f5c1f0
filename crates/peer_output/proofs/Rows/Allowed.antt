-- Worked rows: contents that come in, and an output that they allow, item by item. The texts of the items are told beside.
use Rattle.std.proofs.Common.{◌≡◌, ℕ, List, [], ◌∷◌, codes, true, Some, inl, refl}
use Rattle.std.specs.Fmt.{digits}
use Rattle.std.specs.Str.{is_utf8, chars}
use Rattle.serde_json.proofs.OnLiterals.{serde_json_on_literals}
use Rattle.serde_json.specs.Data.{boolean, number, unsigned, array, item, no_items}
use Rattle.rpc_messages.specs.Unit.{unit_of}
use Rattle.handler_future.specs.declared.message.Message.TheVariants as messages
use Rattle.peer_output.specs.Course.{message}
use Rattle.peer_output.specs.Items.{Item, sent}
use Rattle.peer_output.specs.Output.{IsOutput}
use Rattle.peer_output.proofs.Rows.Shown.{contents, texts_of, whole, row}
use Rattle.peer_output.proofs.Rows.Table.{row_table, opening_table, each_table, one, confirm, plainly, called, answers}
use Rattle.peer_output.proofs.Rows.Texts.{unknown, ask, add, yes, no, not_found, invalid_request, parse_error, call_1, said_yes, no_reply, sum_told}

-- ---- a request whose method is unknown

abbrev plain_answer_in : List (List ℕ)
plain_answer_in = unknown ∷ []

abbrev plain_answer_out : List Item
plain_answer_out =
    answers (1 ∷ []) not_found
    ∷ []

plain_answer_texts : texts_of plain_answer_out ≡ not_found ∷ []
unfolding digits serde_json_on_literals
plain_answer_texts = refl

plain_answer_is_output : IsOutput row_table (contents plain_answer_in) plain_answer_out
unfolding unit_of is_utf8 chars digits serde_json_on_literals
plain_answer_is_output = row row_table (contents plain_answer_in) plain_answer_out (whole row_table (contents plain_answer_in) 0 2) ((inl refl, refl), ((inl refl, refl), tt)) refl refl refl ((refl, tt), tt)

-- ---- a content that is no JSON, and then a request

abbrev unreadable_content_in : List (List ℕ)
unreadable_content_in = codes "{" ∷ unknown ∷ []

abbrev unreadable_content_out : List Item
unreadable_content_out =
    answers [] parse_error
    ∷ answers (1 ∷ []) not_found
    ∷ []

unreadable_content_texts : texts_of unreadable_content_out ≡ parse_error ∷ not_found ∷ []
unfolding digits serde_json_on_literals
unreadable_content_texts = refl

unreadable_content_is_output : IsOutput row_table (contents unreadable_content_in) unreadable_content_out
unfolding unit_of is_utf8 chars digits serde_json_on_literals
unreadable_content_is_output = row row_table (contents unreadable_content_in) unreadable_content_out (whole row_table (contents unreadable_content_in) 0 2) ((inl refl, refl), ((inl refl, refl), tt)) refl refl refl (tt, ((refl, tt), tt))

-- ---- an empty array is one invalid entry

abbrev empty_array_in : List (List ℕ)
empty_array_in = codes "[]" ∷ []

abbrev empty_array_out : List Item
empty_array_out =
    answers [] invalid_request
    ∷ []

empty_array_texts : texts_of empty_array_out ≡ invalid_request ∷ []
unfolding digits serde_json_on_literals
empty_array_texts = refl

empty_array_is_output : IsOutput row_table (contents empty_array_in) empty_array_out
unfolding unit_of is_utf8 chars digits serde_json_on_literals
empty_array_is_output = row row_table (contents empty_array_in) empty_array_out (whole row_table (contents empty_array_in) 0 1) ((inl refl, refl), tt) refl refl refl (tt, tt)

-- ---- a batch of a request, a notification, an invalid entry and a request

abbrev batch_in : List (List ℕ)
batch_in = codes "[{\"jsonrpc\":\"2.0\",\"method\":\"add\",\"params\":[2,3],\"id\":1},{\"jsonrpc\":\"2.0\",\"method\":\"add\",\"params\":[4,5]},{\"foo\":\"boo\"},{\"jsonrpc\":\"2.0\",\"method\":\"nope\",\"id\":\"x\"}]" ∷ []

abbrev batch_out : List Item
batch_out =
    answers (1 ∷ 3 ∷ []) (codes "[{\"id\":1,\"jsonrpc\":\"2.0\",\"result\":5},{\"error\":{\"code\":-32600,\"message\":\"Invalid Request\"},\"id\":null,\"jsonrpc\":\"2.0\"},{\"error\":{\"code\":-32601,\"message\":\"Method not found\"},\"id\":\"x\",\"jsonrpc\":\"2.0\"}]")
    ∷ []

batch_texts : texts_of batch_out ≡ codes "[{\"id\":1,\"jsonrpc\":\"2.0\",\"result\":5},{\"error\":{\"code\":-32600,\"message\":\"Invalid Request\"},\"id\":null,\"jsonrpc\":\"2.0\"},{\"error\":{\"code\":-32601,\"message\":\"Method not found\"},\"id\":\"x\",\"jsonrpc\":\"2.0\"}]" ∷ []
unfolding digits serde_json_on_literals
batch_texts = refl

batch_is_output : IsOutput row_table (contents batch_in) batch_out
unfolding unit_of is_utf8 chars digits serde_json_on_literals
batch_is_output = row row_table (contents batch_in) batch_out (whole row_table (contents batch_in) 0 4) ((inl refl, refl), ((inl refl, refl), ((inl refl, refl), ((inl refl, refl), tt)))) refl refl refl ((refl, (refl, tt)), tt)

-- ---- a batch without requests has no answer

abbrev batch_of_notifications_in : List (List ℕ)
batch_of_notifications_in = codes "[{\"jsonrpc\":\"2.0\",\"method\":\"add\",\"params\":[1,2]},{\"jsonrpc\":\"2.0\",\"method\":\"nope\"}]" ∷ []

abbrev batch_of_notifications_out : List Item
batch_of_notifications_out =
    []

batch_of_notifications_texts : texts_of batch_of_notifications_out ≡ []
unfolding digits serde_json_on_literals
batch_of_notifications_texts = refl

batch_of_notifications_is_output : IsOutput row_table (contents batch_of_notifications_in) batch_of_notifications_out
unfolding unit_of is_utf8 chars digits serde_json_on_literals
batch_of_notifications_is_output = row row_table (contents batch_of_notifications_in) batch_of_notifications_out (whole row_table (contents batch_of_notifications_in) 0 3) ((inl refl, refl), ((inl refl, refl), ((inl refl, refl), tt))) refl refl refl tt

-- ---- a call back, and its reply

abbrev call_back_in : List (List ℕ)
call_back_in = ask ∷ yes ∷ []

abbrev call_back_out : List Item
call_back_out =
    called 1 1 confirm
    ∷ answers (1 ∷ []) said_yes
    ∷ []

call_back_texts : texts_of call_back_out ≡ call_1 ∷ said_yes ∷ []
unfolding digits serde_json_on_literals
call_back_texts = refl

call_back_is_output : IsOutput row_table (contents call_back_in) call_back_out
unfolding unit_of is_utf8 chars digits serde_json_on_literals
call_back_is_output = row row_table (contents call_back_in) call_back_out (whole row_table (contents call_back_in) 0 2) ((inl refl, refl), ((inl refl, refl), tt)) refl refl refl ((refl, tt), tt)

-- ---- a reply that stands before its request is none

abbrev early_reply_in : List (List ℕ)
early_reply_in = yes ∷ ask ∷ []

abbrev early_reply_out : List Item
early_reply_out =
    called 1 1 confirm
    ∷ answers (1 ∷ []) no_reply
    ∷ []

early_reply_texts : texts_of early_reply_out ≡ call_1 ∷ no_reply ∷ []
unfolding digits serde_json_on_literals
early_reply_texts = refl

early_reply_is_output : IsOutput row_table (contents early_reply_in) early_reply_out
unfolding unit_of is_utf8 chars digits serde_json_on_literals
early_reply_is_output = row row_table (contents early_reply_in) early_reply_out (whole row_table (contents early_reply_in) 0 2) ((inl refl, refl), ((inl refl, refl), tt)) refl refl refl ((refl, tt), tt)

-- ---- the first reply counts

abbrev second_reply_in : List (List ℕ)
second_reply_in = ask ∷ yes ∷ no ∷ []

abbrev second_reply_out : List Item
second_reply_out =
    called 1 1 confirm
    ∷ answers (1 ∷ []) said_yes
    ∷ []

second_reply_texts : texts_of second_reply_out ≡ call_1 ∷ said_yes ∷ []
unfolding digits serde_json_on_literals
second_reply_texts = refl

second_reply_is_output : IsOutput row_table (contents second_reply_in) second_reply_out
unfolding unit_of is_utf8 chars digits serde_json_on_literals
second_reply_is_output = row row_table (contents second_reply_in) second_reply_out (whole row_table (contents second_reply_in) 0 2) ((inl refl, refl), ((inl refl, refl), tt)) refl refl refl ((refl, tt), tt)

-- ---- a reply may stand in the batch of its request

abbrev reply_in_the_same_batch_in : List (List ℕ)
reply_in_the_same_batch_in = codes "[{\"jsonrpc\":\"2.0\",\"method\":\"ask\",\"params\":[\"x\"],\"id\":7},{\"jsonrpc\":\"2.0\",\"id\":\"1.1\",\"result\":true}]" ∷ []

abbrev reply_in_the_same_batch_out : List Item
reply_in_the_same_batch_out =
    called 1 1 confirm
    ∷ answers (1 ∷ []) (codes "[{\"id\":7,\"jsonrpc\":\"2.0\",\"result\":true}]")
    ∷ []

reply_in_the_same_batch_texts : texts_of reply_in_the_same_batch_out ≡ call_1 ∷ codes "[{\"id\":7,\"jsonrpc\":\"2.0\",\"result\":true}]" ∷ []
unfolding digits serde_json_on_literals
reply_in_the_same_batch_texts = refl

reply_in_the_same_batch_is_output : IsOutput row_table (contents reply_in_the_same_batch_in) reply_in_the_same_batch_out
unfolding unit_of is_utf8 chars digits serde_json_on_literals
reply_in_the_same_batch_is_output = row row_table (contents reply_in_the_same_batch_in) reply_in_the_same_batch_out (whole row_table (contents reply_in_the_same_batch_in) 0 2) ((inl refl, refl), ((inl refl, refl), tt)) refl refl refl ((refl, tt), tt)

-- ---- a batch of calls whose replies come in another order

abbrev replies_out_of_order_in : List (List ℕ)
replies_out_of_order_in = codes "{\"jsonrpc\":\"2.0\",\"method\":\"two\",\"id\":1}" ∷ codes "[{\"jsonrpc\":\"2.0\",\"id\":\"1.2\",\"result\":\"B\"},{\"jsonrpc\":\"2.0\",\"id\":\"1.1\",\"result\":\"A\"}]" ∷ []

abbrev replies_out_of_order_out : List Item
replies_out_of_order_out =
    sent 1 (message (messages.Calls 1 (plainly (codes "a") ∷ plainly (codes "b") ∷ [])))
    ∷ answers (1 ∷ []) (codes "{\"id\":1,\"jsonrpc\":\"2.0\",\"result\":[\"A\",\"B\"]}")
    ∷ []

replies_out_of_order_texts : texts_of replies_out_of_order_out ≡ codes "[{\"id\":\"1.1\",\"jsonrpc\":\"2.0\",\"method\":\"a\"},{\"id\":\"1.2\",\"jsonrpc\":\"2.0\",\"method\":\"b\"}]" ∷ codes "{\"id\":1,\"jsonrpc\":\"2.0\",\"result\":[\"A\",\"B\"]}" ∷ []
unfolding digits serde_json_on_literals
replies_out_of_order_texts = refl

replies_out_of_order_is_output : IsOutput row_table (contents replies_out_of_order_in) replies_out_of_order_out
unfolding unit_of is_utf8 chars digits serde_json_on_literals
replies_out_of_order_is_output = row row_table (contents replies_out_of_order_in) replies_out_of_order_out (whole row_table (contents replies_out_of_order_in) 0 2) ((inl refl, refl), ((inl refl, refl), tt)) refl refl refl ((refl, tt), tt)

-- ---- a request that waits for a reply holds back the answer of a later one

abbrev answers_in_order_of_arrival_in : List (List ℕ)
answers_in_order_of_arrival_in = ask ∷ add ∷ yes ∷ []

abbrev answers_in_order_of_arrival_out : List Item
answers_in_order_of_arrival_out =
    called 1 1 confirm
    ∷ answers (1 ∷ []) said_yes
    ∷ answers (2 ∷ []) sum_told
    ∷ []

answers_in_order_of_arrival_texts : texts_of answers_in_order_of_arrival_out ≡ call_1 ∷ said_yes ∷ sum_told ∷ []
unfolding digits serde_json_on_literals
answers_in_order_of_arrival_texts = refl

answers_in_order_of_arrival_is_output : IsOutput row_table (contents answers_in_order_of_arrival_in) answers_in_order_of_arrival_out
unfolding unit_of is_utf8 chars digits serde_json_on_literals
answers_in_order_of_arrival_is_output = row row_table (contents answers_in_order_of_arrival_in) answers_in_order_of_arrival_out (whole row_table (contents answers_in_order_of_arrival_in) 0 3) ((inl refl, refl), ((inl refl, refl), ((inl refl, refl), tt))) refl refl refl ((refl, tt), ((refl, tt), tt))

-- ---- a notification sends, and is not answered

abbrev notification_in : List (List ℕ)
notification_in = codes "{\"jsonrpc\":\"2.0\",\"method\":\"note\",\"params\":[\"x\"]}" ∷ []

abbrev notification_out : List Item
notification_out =
    sent 1 (message (messages.Notice (record { method = codes "log"; params = Some (one (codes "x")) })))
    ∷ []

notification_texts : texts_of notification_out ≡ codes "{\"jsonrpc\":\"2.0\",\"method\":\"log\",\"params\":[\"x\"]}" ∷ []
unfolding digits serde_json_on_literals
notification_texts = refl

notification_is_output : IsOutput row_table (contents notification_in) notification_out
unfolding unit_of is_utf8 chars digits serde_json_on_literals
notification_is_output = row row_table (contents notification_in) notification_out (whole row_table (contents notification_in) 0 2) ((inl refl, refl), ((inl refl, refl), tt)) refl refl refl tt

-- ---- the input ends before the reply

abbrev end_with_an_open_call_in : List (List ℕ)
end_with_an_open_call_in = codes "{\"jsonrpc\":\"2.0\",\"method\":\"keep\",\"id\":1}" ∷ []

abbrev end_with_an_open_call_out : List Item
end_with_an_open_call_out =
    called 1 1 (plainly (codes "confirm"))
    ∷ answers (1 ∷ []) (codes "{\"id\":1,\"jsonrpc\":\"2.0\",\"result\":{\"error\":{\"code\":-32000,\"message\":\"No reply\"},\"ok\":false}}")
    ∷ []

end_with_an_open_call_texts : texts_of end_with_an_open_call_out ≡ codes "{\"id\":\"1.1\",\"jsonrpc\":\"2.0\",\"method\":\"confirm\"}" ∷ codes "{\"id\":1,\"jsonrpc\":\"2.0\",\"result\":{\"error\":{\"code\":-32000,\"message\":\"No reply\"},\"ok\":false}}" ∷ []
unfolding digits serde_json_on_literals
end_with_an_open_call_texts = refl

end_with_an_open_call_is_output : IsOutput row_table (contents end_with_an_open_call_in) end_with_an_open_call_out
unfolding unit_of is_utf8 chars digits serde_json_on_literals
end_with_an_open_call_is_output = row row_table (contents end_with_an_open_call_in) end_with_an_open_call_out (whole row_table (contents end_with_an_open_call_in) 0 2) ((inl refl, refl), ((inl refl, refl), tt)) refl refl refl ((refl, tt), tt)

-- ---- the opening calls and tells, and is not answered

abbrev opening_in : List (List ℕ)
opening_in = codes "{\"jsonrpc\":\"2.0\",\"id\":\"0.1\",\"result\":true}" ∷ []

abbrev opening_out : List Item
opening_out =
    called 0 1 (plainly (codes "hello"))
    ∷ sent 0 (message (messages.Notice (record { method = codes "ready"; params = Some (array (item (boolean true) no_items)) })))
    ∷ []

opening_texts : texts_of opening_out ≡ codes "{\"id\":\"0.1\",\"jsonrpc\":\"2.0\",\"method\":\"hello\"}" ∷ codes "{\"jsonrpc\":\"2.0\",\"method\":\"ready\",\"params\":[true]}" ∷ []
unfolding digits serde_json_on_literals
opening_texts = refl

opening_is_output : IsOutput opening_table (contents opening_in) opening_out
unfolding unit_of is_utf8 chars digits serde_json_on_literals
opening_is_output = row opening_table (contents opening_in) opening_out (whole opening_table (contents opening_in) 0 1) ((inl refl, refl), tt) refl refl refl tt

-- ---- an opening whose call has no reply

abbrev opening_without_a_reply_in : List (List ℕ)
opening_without_a_reply_in = []

abbrev opening_without_a_reply_out : List Item
opening_without_a_reply_out =
    called 0 1 (plainly (codes "hello"))
    ∷ []

opening_without_a_reply_texts : texts_of opening_without_a_reply_out ≡ codes "{\"id\":\"0.1\",\"jsonrpc\":\"2.0\",\"method\":\"hello\"}" ∷ []
unfolding digits serde_json_on_literals
opening_without_a_reply_texts = refl

opening_without_a_reply_is_output : IsOutput opening_table (contents opening_without_a_reply_in) opening_without_a_reply_out
unfolding unit_of is_utf8 chars digits serde_json_on_literals
opening_without_a_reply_is_output = row opening_table (contents opening_without_a_reply_in) opening_without_a_reply_out (whole opening_table (contents opening_without_a_reply_in) 0 1) ((inl refl, refl), tt) refl refl refl tt

-- ---- one call for each element of the params

abbrev call_for_each_element_in : List (List ℕ)
call_for_each_element_in = codes "{\"jsonrpc\":\"2.0\",\"method\":\"all\",\"params\":[1,2],\"id\":1}" ∷ codes "[{\"jsonrpc\":\"2.0\",\"id\":\"1.2\",\"result\":20},{\"jsonrpc\":\"2.0\",\"id\":\"1.1\",\"result\":10}]" ∷ []

abbrev call_for_each_element_out : List Item
call_for_each_element_out =
    sent 1 (message (messages.Calls 1 (record { method = codes "f"; params = Some (array (item (number (unsigned 1)) no_items)) } ∷ record { method = codes "f"; params = Some (array (item (number (unsigned 2)) no_items)) } ∷ [])))
    ∷ answers (1 ∷ []) (codes "{\"id\":1,\"jsonrpc\":\"2.0\",\"result\":[10,20]}")
    ∷ []

call_for_each_element_texts : texts_of call_for_each_element_out ≡ codes "[{\"id\":\"1.1\",\"jsonrpc\":\"2.0\",\"method\":\"f\",\"params\":[1]},{\"id\":\"1.2\",\"jsonrpc\":\"2.0\",\"method\":\"f\",\"params\":[2]}]" ∷ codes "{\"id\":1,\"jsonrpc\":\"2.0\",\"result\":[10,20]}" ∷ []
unfolding digits serde_json_on_literals
call_for_each_element_texts = refl

call_for_each_element_is_output : IsOutput each_table (contents call_for_each_element_in) call_for_each_element_out
unfolding unit_of is_utf8 chars digits serde_json_on_literals
call_for_each_element_is_output = row each_table (contents call_for_each_element_in) call_for_each_element_out (whole each_table (contents call_for_each_element_in) 0 2) ((inl refl, refl), ((inl refl, refl), tt)) refl refl refl ((refl, tt), tt)

-- ---- no element, no message

abbrev call_for_no_element_in : List (List ℕ)
call_for_no_element_in = codes "{\"jsonrpc\":\"2.0\",\"method\":\"all\",\"params\":[],\"id\":1}" ∷ []

abbrev call_for_no_element_out : List Item
call_for_no_element_out =
    answers (1 ∷ []) (codes "{\"id\":1,\"jsonrpc\":\"2.0\",\"result\":[]}")
    ∷ []

call_for_no_element_texts : texts_of call_for_no_element_out ≡ codes "{\"id\":1,\"jsonrpc\":\"2.0\",\"result\":[]}" ∷ []
unfolding digits serde_json_on_literals
call_for_no_element_texts = refl

call_for_no_element_is_output : IsOutput each_table (contents call_for_no_element_in) call_for_no_element_out
unfolding unit_of is_utf8 chars digits serde_json_on_literals
call_for_no_element_is_output = row each_table (contents call_for_no_element_in) call_for_no_element_out (whole each_table (contents call_for_no_element_in) 0 2) ((inl refl, refl), ((inl refl, refl), tt)) refl refl refl ((refl, tt), tt)

-- ---- a method that asks first

abbrev gate_open_in : List (List ℕ)
gate_open_in = codes "{\"jsonrpc\":\"2.0\",\"method\":\"gate\",\"id\":1}" ∷ yes ∷ []

abbrev gate_open_out : List Item
gate_open_out =
    called 1 1 (plainly (codes "confirm"))
    ∷ answers (1 ∷ []) (codes "{\"id\":1,\"jsonrpc\":\"2.0\",\"result\":\"yes\"}")
    ∷ []

gate_open_texts : texts_of gate_open_out ≡ codes "{\"id\":\"1.1\",\"jsonrpc\":\"2.0\",\"method\":\"confirm\"}" ∷ codes "{\"id\":1,\"jsonrpc\":\"2.0\",\"result\":\"yes\"}" ∷ []
unfolding digits serde_json_on_literals
gate_open_texts = refl

gate_open_is_output : IsOutput row_table (contents gate_open_in) gate_open_out
unfolding unit_of is_utf8 chars digits serde_json_on_literals
gate_open_is_output = row row_table (contents gate_open_in) gate_open_out (whole row_table (contents gate_open_in) 0 2) ((inl refl, refl), ((inl refl, refl), tt)) refl refl refl ((refl, tt), tt)

-- ---- and is told no

abbrev gate_shut_in : List (List ℕ)
gate_shut_in = codes "{\"jsonrpc\":\"2.0\",\"method\":\"gate\",\"id\":1}" ∷ no ∷ []

abbrev gate_shut_out : List Item
gate_shut_out =
    called 1 1 (plainly (codes "confirm"))
    ∷ answers (1 ∷ []) (codes "{\"error\":{\"code\":7,\"message\":\"no\"},\"id\":1,\"jsonrpc\":\"2.0\"}")
    ∷ []

gate_shut_texts : texts_of gate_shut_out ≡ codes "{\"id\":\"1.1\",\"jsonrpc\":\"2.0\",\"method\":\"confirm\"}" ∷ codes "{\"error\":{\"code\":7,\"message\":\"no\"},\"id\":1,\"jsonrpc\":\"2.0\"}" ∷ []
unfolding digits serde_json_on_literals
gate_shut_texts = refl

gate_shut_is_output : IsOutput row_table (contents gate_shut_in) gate_shut_out
unfolding unit_of is_utf8 chars digits serde_json_on_literals
gate_shut_is_output = row row_table (contents gate_shut_in) gate_shut_out (whole row_table (contents gate_shut_in) 0 2) ((inl refl, refl), ((inl refl, refl), tt)) refl refl refl ((refl, tt), tt)
