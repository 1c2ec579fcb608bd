pub mod ContentLemmas
pub mod RoomLemmas
