-- Worked rows with cancels: a request that a cancel reaches may be cut short at any message, or run to its end.
use Rattle.std.proofs.Common.{◌≡◌, ◌==◌, ℕ, List, [], ◌∷◌, codes, true, false, inl, inr, refl}
use Rattle.std.specs.Fmt.{digits}
use Rattle.std.specs.Str.{is_utf8, chars}
use Rattle.serde_json.proofs.OnLiterals.{serde_json_on_literals}
use Rattle.serde_json.specs.Data.{null}
use Rattle.rpc_messages.specs.Unit.{unit_of}
use Rattle.rpc_messages.specs.declared.reply.Reply.TheVariants.{Standard}
use Rattle.message_ids.specs.declared.standard.Standard.TheVariants.{Cancelled}
use Rattle.rpc_messages.specs.Replies.{entries_along}
use Rattle.handler_future.specs.declared.message.Message.{Message}
use Rattle.handler_future.specs.declared.message.Message.TheVariants as messages
use Rattle.handler_future.specs.Evaluation.{Program}
use Rattle.peer_output.specs.Course.{Sending, Course, course, message, withdrawal}
use Rattle.peer_output.specs.Items.{Item, sent}
use Rattle.peer_output.specs.Output.{IsOutput}
use Rattle.peer_output.proofs.Rows.Shown.{contents, texts_of, row}
use Rattle.peer_output.proofs.Rows.Table.{row_table, two_steps, ask_program, confirm, plainly, called, withdrawn, answers}
use Rattle.peer_output.proofs.Rows.Texts.{ask, yes, cancel, cancel_text, call_1, call_2, said_yes, no_reply, cancelled, withdrawal_1, withdrawal_2}

-- what is sent, and then `Request cancelled`
abbrev cut_short : List Sending → Course
cut_short sends = record { sends = sends; answer = Standard Cancelled }

abbrev ask_call : Message
ask_call = messages.Call 1 confirm

abbrev two_calls : Message
two_calls = messages.Calls 1 (plainly (codes "a") ∷ plainly (codes "b") ∷ [])

abbrev two_program : Program
two_program = record { steps = two_steps; params = null }

-- ---- a cancel of a request that waits: its call is withdrawn

abbrev cancelled_while_it_waits_in : List (List ℕ)
cancelled_while_it_waits_in = ask ∷ cancel ∷ yes ∷ []

abbrev cancelled_while_it_waits_out : List Item
cancelled_while_it_waits_out =
    called 1 1 confirm
    ∷ withdrawn 1 1
    ∷ answers (1 ∷ []) cancelled
    ∷ []

cancelled_while_it_waits_texts : texts_of cancelled_while_it_waits_out ≡ call_1 ∷ withdrawal_1 ∷ cancelled ∷ []
unfolding digits serde_json_on_literals
cancelled_while_it_waits_texts = refl

cancelled_while_it_waits_is_output : IsOutput row_table (contents cancelled_while_it_waits_in) cancelled_while_it_waits_out
unfolding unit_of is_utf8 chars digits serde_json_on_literals
cancelled_while_it_waits_is_output =
    row row_table (contents cancelled_while_it_waits_in) cancelled_while_it_waits_out
    (course row_table (entries_along (contents cancelled_while_it_waits_in)) 0
    ∷ cut_short (message ask_call ∷ withdrawal 1 ∷ [])
    ∷ course row_table (entries_along (contents cancelled_while_it_waits_in)) 2
    ∷ []) (
      (inl refl, refl),
      (
        (
          inr (record {
            reached = refl;
            program = ask_program;
            runs = refl;
            cut = record { made = ask_call ∷ []; is_withdrawn = λ t. true; begins = record { rest = []; joined = refl }; sends = refl; answer = refl };
          }),
          refl,
        ),
        ((inl refl, refl), tt),
      ),
    ) refl refl refl ((refl, tt), tt)

-- ---- a cancel of a request that never ran

abbrev cancelled_before_its_first_turn_in : List (List ℕ)
cancelled_before_its_first_turn_in = ask ∷ cancel ∷ yes ∷ []

abbrev cancelled_before_its_first_turn_out : List Item
cancelled_before_its_first_turn_out =
    answers (1 ∷ []) cancelled
    ∷ []

cancelled_before_its_first_turn_texts : texts_of cancelled_before_its_first_turn_out ≡ cancelled ∷ []
unfolding digits serde_json_on_literals
cancelled_before_its_first_turn_texts = refl

cancelled_before_its_first_turn_is_output : IsOutput row_table (contents cancelled_before_its_first_turn_in) cancelled_before_its_first_turn_out
unfolding unit_of is_utf8 chars digits serde_json_on_literals
cancelled_before_its_first_turn_is_output =
    row row_table (contents cancelled_before_its_first_turn_in) cancelled_before_its_first_turn_out
    (course row_table (entries_along (contents cancelled_before_its_first_turn_in)) 0
    ∷ cut_short []
    ∷ course row_table (entries_along (contents cancelled_before_its_first_turn_in)) 2
    ∷ []) (
      (inl refl, refl),
      (
        (
          inr (record {
            reached = refl;
            program = ask_program;
            runs = refl;
            cut = record { made = []; is_withdrawn = λ t. true; begins = record { rest = ask_call ∷ []; joined = refl }; sends = refl; answer = refl };
          }),
          refl,
        ),
        ((inl refl, refl), tt),
      ),
    ) refl refl refl ((refl, tt), tt)

-- ---- a cancel of a request whose reply had come: nothing is withdrawn

abbrev cancelled_with_its_reply_there_in : List (List ℕ)
cancelled_with_its_reply_there_in = ask ∷ yes ∷ cancel ∷ []

abbrev cancelled_with_its_reply_there_out : List Item
cancelled_with_its_reply_there_out =
    called 1 1 confirm
    ∷ answers (1 ∷ []) cancelled
    ∷ []

cancelled_with_its_reply_there_texts : texts_of cancelled_with_its_reply_there_out ≡ call_1 ∷ cancelled ∷ []
unfolding digits serde_json_on_literals
cancelled_with_its_reply_there_texts = refl

cancelled_with_its_reply_there_is_output : IsOutput row_table (contents cancelled_with_its_reply_there_in) cancelled_with_its_reply_there_out
unfolding unit_of is_utf8 chars digits serde_json_on_literals
cancelled_with_its_reply_there_is_output =
    row row_table (contents cancelled_with_its_reply_there_in) cancelled_with_its_reply_there_out
    (course row_table (entries_along (contents cancelled_with_its_reply_there_in)) 0
    ∷ cut_short (message ask_call ∷ [])
    ∷ course row_table (entries_along (contents cancelled_with_its_reply_there_in)) 2
    ∷ []) (
      (inl refl, refl),
      (
        (
          inr (record {
            reached = refl;
            program = ask_program;
            runs = refl;
            cut = record { made = ask_call ∷ []; is_withdrawn = λ t. false; begins = record { rest = []; joined = refl }; sends = refl; answer = refl };
          }),
          refl,
        ),
        ((inl refl, refl), tt),
      ),
    ) refl refl refl ((refl, tt), tt)

-- ---- a cancel of a request that had ended

abbrev cancel_that_comes_late_in : List (List ℕ)
cancel_that_comes_late_in = ask ∷ cancel ∷ yes ∷ []

abbrev cancel_that_comes_late_out : List Item
cancel_that_comes_late_out =
    called 1 1 confirm
    ∷ answers (1 ∷ []) said_yes
    ∷ []

cancel_that_comes_late_texts : texts_of cancel_that_comes_late_out ≡ call_1 ∷ said_yes ∷ []
unfolding digits serde_json_on_literals
cancel_that_comes_late_texts = refl

cancel_that_comes_late_is_output : IsOutput row_table (contents cancel_that_comes_late_in) cancel_that_comes_late_out
unfolding unit_of is_utf8 chars digits serde_json_on_literals
cancel_that_comes_late_is_output =
    row row_table (contents cancel_that_comes_late_in) cancel_that_comes_late_out
    (course row_table (entries_along (contents cancel_that_comes_late_in)) 0
    ∷ course row_table (entries_along (contents cancel_that_comes_late_in)) 1
    ∷ course row_table (entries_along (contents cancel_that_comes_late_in)) 2
    ∷ [])
    ((inl refl, refl), ((inl refl, refl), ((inl refl, refl), tt))) refl refl refl ((refl, tt), tt)

-- ---- a cancel reaches every request with its id

abbrev two_cancelled_in : List (List ℕ)
two_cancelled_in = ask ∷ ask ∷ cancel ∷ []

abbrev two_cancelled_out : List Item
two_cancelled_out =
    called 1 1 confirm
    ∷ called 2 1 confirm
    ∷ withdrawn 1 1
    ∷ withdrawn 2 1
    ∷ answers (1 ∷ []) cancelled
    ∷ answers (2 ∷ []) cancelled
    ∷ []

two_cancelled_texts : texts_of two_cancelled_out ≡ call_1 ∷ call_2 ∷ withdrawal_1 ∷ withdrawal_2 ∷ cancelled ∷ cancelled ∷ []
unfolding digits serde_json_on_literals
two_cancelled_texts = refl

two_cancelled_is_output : IsOutput row_table (contents two_cancelled_in) two_cancelled_out
unfolding unit_of is_utf8 chars digits serde_json_on_literals
two_cancelled_is_output =
    row row_table (contents two_cancelled_in) two_cancelled_out
    (course row_table (entries_along (contents two_cancelled_in)) 0
    ∷ cut_short (message ask_call ∷ withdrawal 1 ∷ [])
    ∷ cut_short (message ask_call ∷ withdrawal 1 ∷ [])
    ∷ course row_table (entries_along (contents two_cancelled_in)) 3
    ∷ []) (
      (inl refl, refl),
      (
        (
          inr (record {
            reached = refl;
            program = ask_program;
            runs = refl;
            cut = record { made = ask_call ∷ []; is_withdrawn = λ t. true; begins = record { rest = []; joined = refl }; sends = refl; answer = refl };
          }),
          refl,
        ),
        (
          (
            inr (record {
              reached = refl;
              program = ask_program;
              runs = refl;
              cut = record { made = ask_call ∷ []; is_withdrawn = λ t. true; begins = record { rest = []; joined = refl }; sends = refl; answer = refl };
            }),
            refl,
          ),
          ((inl refl, refl), tt),
        ),
      ),
    ) refl refl refl ((refl, tt), ((refl, tt), tt))

-- ---- a text is no number: the cancel reaches nothing

abbrev cancel_of_a_text_in : List (List ℕ)
cancel_of_a_text_in = ask ∷ ask ∷ cancel_text ∷ []

abbrev cancel_of_a_text_out : List Item
cancel_of_a_text_out =
    called 1 1 confirm
    ∷ called 2 1 confirm
    ∷ answers (1 ∷ []) no_reply
    ∷ answers (2 ∷ []) no_reply
    ∷ []

cancel_of_a_text_texts : texts_of cancel_of_a_text_out ≡ call_1 ∷ call_2 ∷ no_reply ∷ no_reply ∷ []
unfolding digits serde_json_on_literals
cancel_of_a_text_texts = refl

cancel_of_a_text_is_output : IsOutput row_table (contents cancel_of_a_text_in) cancel_of_a_text_out
unfolding unit_of is_utf8 chars digits serde_json_on_literals
cancel_of_a_text_is_output =
    row row_table (contents cancel_of_a_text_in) cancel_of_a_text_out
    (course row_table (entries_along (contents cancel_of_a_text_in)) 0
    ∷ course row_table (entries_along (contents cancel_of_a_text_in)) 1
    ∷ course row_table (entries_along (contents cancel_of_a_text_in)) 2
    ∷ course row_table (entries_along (contents cancel_of_a_text_in)) 3
    ∷ [])
    ((inl refl, refl), ((inl refl, refl), ((inl refl, refl), ((inl refl, refl), tt)))) refl refl refl ((refl, tt), ((refl, tt), tt))

-- ---- a cancel in the batch of its request

abbrev cancelled_in_its_batch_in : List (List ℕ)
cancelled_in_its_batch_in = codes "[{\"jsonrpc\":\"2.0\",\"method\":\"ask\",\"params\":[\"x\"],\"id\":7},{\"jsonrpc\":\"2.0\",\"method\":\"$/cancelRequest\",\"params\":{\"id\":7}}]" ∷ []

abbrev cancelled_in_its_batch_out : List Item
cancelled_in_its_batch_out =
    answers (1 ∷ []) (codes "[{\"error\":{\"code\":-32800,\"message\":\"Request cancelled\"},\"id\":7,\"jsonrpc\":\"2.0\"}]")
    ∷ []

cancelled_in_its_batch_texts : texts_of cancelled_in_its_batch_out ≡ codes "[{\"error\":{\"code\":-32800,\"message\":\"Request cancelled\"},\"id\":7,\"jsonrpc\":\"2.0\"}]" ∷ []
unfolding digits serde_json_on_literals
cancelled_in_its_batch_texts = refl

cancelled_in_its_batch_is_output : IsOutput row_table (contents cancelled_in_its_batch_in) cancelled_in_its_batch_out
unfolding unit_of is_utf8 chars digits serde_json_on_literals
cancelled_in_its_batch_is_output =
    row row_table (contents cancelled_in_its_batch_in) cancelled_in_its_batch_out
    (course row_table (entries_along (contents cancelled_in_its_batch_in)) 0
    ∷ cut_short []
    ∷ course row_table (entries_along (contents cancelled_in_its_batch_in)) 2
    ∷ []) (
      (inl refl, refl),
      (
        (
          inr (record {
            reached = refl;
            program = ask_program;
            runs = refl;
            cut = record { made = []; is_withdrawn = λ t. true; begins = record { rest = ask_call ∷ []; joined = refl }; sends = refl; answer = refl };
          }),
          refl,
        ),
        ((inl refl, refl), tt),
      ),
    ) refl refl refl ((refl, tt), tt)

-- ---- a cancel that stands before its request reaches nothing

abbrev cancel_before_its_request_in : List (List ℕ)
cancel_before_its_request_in = codes "[{\"jsonrpc\":\"2.0\",\"method\":\"$/cancelRequest\",\"params\":{\"id\":7}},{\"jsonrpc\":\"2.0\",\"method\":\"ask\",\"params\":[\"x\"],\"id\":7}]" ∷ []

abbrev cancel_before_its_request_out : List Item
cancel_before_its_request_out =
    called 2 1 confirm
    ∷ answers (2 ∷ []) (codes "[{\"error\":{\"code\":-32000,\"message\":\"No reply\"},\"id\":7,\"jsonrpc\":\"2.0\"}]")
    ∷ []

cancel_before_its_request_texts : texts_of cancel_before_its_request_out ≡ call_2 ∷ codes "[{\"error\":{\"code\":-32000,\"message\":\"No reply\"},\"id\":7,\"jsonrpc\":\"2.0\"}]" ∷ []
unfolding digits serde_json_on_literals
cancel_before_its_request_texts = refl

cancel_before_its_request_is_output : IsOutput row_table (contents cancel_before_its_request_in) cancel_before_its_request_out
unfolding unit_of is_utf8 chars digits serde_json_on_literals
cancel_before_its_request_is_output =
    row row_table (contents cancel_before_its_request_in) cancel_before_its_request_out
    (course row_table (entries_along (contents cancel_before_its_request_in)) 0
    ∷ course row_table (entries_along (contents cancel_before_its_request_in)) 1
    ∷ course row_table (entries_along (contents cancel_before_its_request_in)) 2
    ∷ [])
    ((inl refl, refl), ((inl refl, refl), ((inl refl, refl), tt))) refl refl refl ((refl, tt), tt)

-- ---- of a batch of calls those without a reply are withdrawn

abbrev one_of_two_withdrawn_in : List (List ℕ)
one_of_two_withdrawn_in = codes "{\"jsonrpc\":\"2.0\",\"method\":\"two\",\"id\":7}" ∷ yes ∷ cancel ∷ []

abbrev one_of_two_withdrawn_out : List Item
one_of_two_withdrawn_out =
    sent 1 (message two_calls)
    ∷ withdrawn 1 2
    ∷ answers (1 ∷ []) cancelled
    ∷ []

one_of_two_withdrawn_texts : texts_of one_of_two_withdrawn_out ≡ codes "[{\"id\":\"1.1\",\"jsonrpc\":\"2.0\",\"method\":\"a\"},{\"id\":\"1.2\",\"jsonrpc\":\"2.0\",\"method\":\"b\"}]" ∷ codes "{\"jsonrpc\":\"2.0\",\"method\":\"$/cancelRequest\",\"params\":{\"id\":\"1.2\"}}" ∷ cancelled ∷ []
unfolding digits serde_json_on_literals
one_of_two_withdrawn_texts = refl

one_of_two_withdrawn_is_output : IsOutput row_table (contents one_of_two_withdrawn_in) one_of_two_withdrawn_out
unfolding unit_of is_utf8 chars digits serde_json_on_literals
one_of_two_withdrawn_is_output =
    row row_table (contents one_of_two_withdrawn_in) one_of_two_withdrawn_out
    (course row_table (entries_along (contents one_of_two_withdrawn_in)) 0
    ∷ cut_short (message two_calls ∷ withdrawal 2 ∷ [])
    ∷ course row_table (entries_along (contents one_of_two_withdrawn_in)) 2
    ∷ []) (
      (inl refl, refl),
      (
        (
          inr (record {
            reached = refl;
            program = two_program;
            runs = refl;
            cut = record { made = two_calls ∷ []; is_withdrawn = λ t. t == 2; begins = record { rest = []; joined = refl }; sends = refl; answer = refl };
          }),
          refl,
        ),
        ((inl refl, refl), tt),
      ),
    ) refl refl refl ((refl, tt), tt)
