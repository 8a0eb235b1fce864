pub mod FramedAt
