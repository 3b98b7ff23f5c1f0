use Rattle.lsp_frames.proofs.Laws as laws
use Rattle.lsp_frames.proofs.law.written_frame_is_read_back.Goals as goal

pub returns-clause-form : goal.returns-clause-form
returns-clause-form c = laws.written_frame_has_form

pub returns-clause-read : goal.returns-clause-read
returns-clause-read c = laws.written_frame_is_read_back
