pub mod BytesOf
